-- An image whose log and chunks are shown ends at its last store, or has the part of it behind what it held before.
use Rattle.std.proofs.Common.{◌≡◌, ℕ, ◌+◌, ◌≤◌, ◌==◌, Bool, true, false, cond, List, [], ◌∷◌, length, map, unwrap_or, option_map, Option, Some, sym, ap, ◌∙◌, subst, arith, inl, inr, nat_le, if◌then◌else◌}
use Rattle.std.specs.List.{AllByRecursion, filter}
use Rattle.std.proofs.lemmas.Bool.{eq-eqb, ne_eqb}
use Rattle.gated_log.specs.Log.{payloads_of}
use Rattle.transactions_file.specs.Files.{length_in}
use Rattle.transactions_file.specs.Inventory.{State}
use Rattle.transactions_file.specs.Inventory.{start}
use Rattle.channel_files.specs.Chunks.{Chunk, Range, chunk_at, content_of, ranges_of}
use Rattle.channel_files.specs.Shows.{Shows, newest_of}
use Rattle.channel_files.specs.Table.{Occurrence, table_at, up_to}
use Rattle.channel_files.proofs.Within.{AllWithin, all_fit}
use Rattle.channel.specs.Entities.{entity_in}
use Rattle.channel.specs.Images.{HasLog, Image, log_header, state_of}
use Rattle.channel.specs.ChunkRule.{AreRightTo, HasRightChunks, IsRightChunk, IsRightRange}
use Rattle.channel.specs.Shown.{EndsAt, ShowsAt, disk_in}

-- CHUNKS

right_ranges : (n j next m : ℕ) (image : Image) (files : List (ℕ × ℕ)) (last : ℕ) (ranges : List Range) → AllWithin files last ranges
    → ((f : ℕ) → length_in files f ≤ length (image f)) → AreRightTo n j next m (map (chunk_at image) ranges)
    → AllByRecursion (IsRightRange n j next image) (filter (λ (r : Range). nat_le r.number m) ranges)
right_ranges n j next m image files last [] within long right = tt
right_ranges n j next m image files last (r ∷ ranges) within long right = let ih = right_ranges n j next m image files last ranges within.1.1 long in
    (elim (nat_le r.number m) as (λ b. AllByRecursion (λ (c : Chunk). IsRightChunk n j next c.bytes) (cond b (chunk_at image r ∷ up_to m (map (chunk_at image) ranges)) (up_to m (map (chunk_at image) ranges)))
    → AllByRecursion (IsRightRange n j next image) (cond b (r ∷ filter (λ (q : Range). nat_le q.number m) ranges) (filter (λ (q : Range). nat_le q.number m) ranges))) [
      | true ↦ λ all. (record { within = omega (arith, within.0, long r.file); right = all.0 }, ih all.1)
      | false ↦ λ all. ih all
    ]) right

right_chunks : (n j next m last next_id newest before : ℕ) (header : List ℕ) (chunks : List Chunk) (image : Image) → Shows header last next_id newest before chunks image → AreRightTo n j next m chunks
    → HasRightChunks n j next m image
right_chunks n j next m last next_id newest before header chunks image s right = right_ranges n j next m image s.state.files s.state.last (ranges_of (payloads_of (image 0)))
    (all_fit (payloads_of (image 0)) s.state s.inventory).within s.long (subst (AreRightTo n j next m) (sym s.content) right)

-- WHAT IS SHOWN

module _ (n j last next_id newest next_before : ℕ) (chunks : List Chunk) (image : Image) (s : Shows (log_header n j) last next_id newest next_before chunks image) where
  state_is : state_of image ≡ s.state
  state_is = ap (λ (o : Option State). unwrap_or o start) s.inventory

  log_is : HasLog n j image
  log_is = record { file = inr s.is_log; allowed = s.inventory ∙ ap Some (sym state_is) }

  last_number : (state_of image).last ≡ last
  last_number = ap (λ (q : State). q.last) state_is ∙ s.last_is

  entities_are : (m x next : ℕ) → option_map (λ (o : Occurrence). entity_in o.bytes) (table_at m (content_of image) x) ≡ (disk_in m chunks next).entities x
  entities_are m x next = ap (λ (cs : List Chunk). option_map (λ (o : Occurrence). entity_in o.bytes) (table_at m cs x)) s.content

  next_now : (if (state_of image).last == last then (state_of image).next_id else (state_of image).next_id_before) ≡ next_id
  next_now = ap (λ (b : Bool). cond b (state_of image).next_id (state_of image).next_id_before) (eq-eqb (state_of image).last last last_number)
      ∙ (ap (λ (q : State). q.next_id) state_is ∙ s.next_id_is)

  pub ends_from_shows : (most : ℕ) → AreRightTo n j most last chunks → EndsAt n j last most (disk_in last chunks next_id) image
  ends_from_shows most right = record {
    last = last_number;
    shows = record {
      log = log_is;
      agrees = inl last_number;
      next_id = next_now;
      chunks = right_chunks n j most last last next_id newest next_before (log_header n j) chunks image s right;
      entities = λ x. entities_are last x next_id;
    };
  }

-- a store that is the last entry, at the number before it
pub before_from_shows : (n j m next_id next_before most : ℕ) (chunks : List Chunk) (image : Image) → Shows (log_header n j) (m + 1) next_id (m + 1) next_before chunks image
    → AreRightTo n j most m chunks → ShowsAt n j m most (disk_in m chunks next_before) image
before_from_shows n j m next_id next_before most chunks image s right =
    let last : (state_of image).last ≡ m + 1 = last_number n j (m + 1) next_id (m + 1) next_before chunks image s in
    let state : state_of image ≡ s.state = state_is n j (m + 1) next_id (m + 1) next_before chunks image s in
    record {
      log = log_is n j (m + 1) next_id (m + 1) next_before chunks image s;
      agrees = inr (last, ap (λ (q : State). newest_of q.entry) state ∙ (s.newest_is (omega arith) ∙ sym last));
      next_id = ap (λ (b : Bool). cond b (state_of image).next_id (state_of image).next_id_before) (ne_eqb (state_of image).last m (λ e. omega arith))
          ∙ (ap (λ (q : State). q.next_id_before) state ∙ s.before_is (omega arith));
      chunks = right_chunks n j most m (m + 1) next_id (m + 1) next_before (log_header n j) chunks image s right;
      entities = λ x. entities_are n j (m + 1) next_id (m + 1) next_before chunks image s m x next_before;
    }
