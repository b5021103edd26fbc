-- An image that has the live files of another one, and its log or this with the Truncation of its last store, shows the same at a store.
use Rattle.std.proofs.Common.{◌≡◌, ℕ, ◌+◌, ◌-◌, ◌≤◌, ◌==◌, nat_le, Bool, true, false, cond, if◌then◌else◌, List, [], ◌∷◌, ◌++◌, length, take, drop, filter, map, option_map, unwrap_or, Option, Some, Ok, refl, sym, ap, ◌∙◌, subst, arith, inl, inr, append-nil}
use Rattle.std.specs.List.{AllByRecursion, flat_map}
use Rattle.std.proofs.lemmas.Bool.{cases_Bool, cond-false, eq-eqb, lt-leb, ne_eqb}
use Rattle.std.proofs.lemmas.List.{length_push, take_at}
use Rattle.std.proofs.lemmas.List.Elements.{filter-append}
use Rattle.gated_log.specs.Log.{payloads_of}
use Rattle.tx_entry.specs.declared.entry.Entry.TheVariants.{Truncation}
use Rattle.tx_entry.specs.Entries.{entry_of, spelling}
use Rattle.transactions_file.specs.Files.{is_live, length_in}
use Rattle.transactions_file.specs.Inventory.{State, after, inventory_of, is_store_at, start}
use Rattle.transactions_file.proofs.Folds.{one_more}
use Rattle.transactions_file.proofs.Lengths.{dead_length}
use Rattle.channel_files.specs.Chunks.{Chunk, Range, chunk_at, ranges_of}
use Rattle.channel_files.specs.Table.{Occurrence, last_of, occurrences_of, up_to}
use Rattle.channel_files.proofs.Changes.{chunks_kept, ranges_push}
use Rattle.channel_files.proofs.Within.{AllWithin, Dropped, Fits, all_fit, drops}
use Rattle.channel.specs.ChunkRule.{HasRightChunks, IsRightChunk, IsRightRange, ranges_to}
use Rattle.channel.specs.Entities.{entity_in}
use Rattle.channel.specs.Images.{HasLog, Image, IsLogFile, log_header, next_at, state_of}
use Rattle.channel.specs.Shown.{EndsAt, IsLastOrNext, ShowsAt, disk_at}

abbrev is_to : ℕ → Range → Bool
is_to m r = nat_le r.number m

-- the chunks up to a store are those of the ranges up to it
chunks_to : (m : ℕ) (image : Image) (ranges : List Range) → up_to m (map (chunk_at image) ranges) ≡ map (chunk_at image) (filter (is_to m) ranges)
chunks_to m image [] = refl
chunks_to m image (r ∷ ranges) = by (chunks_to m image ranges) (nat_le r.number m)
  where
    by : up_to m (map (chunk_at image) ranges) ≡ map (chunk_at image) (filter (is_to m) ranges) → (b : Bool)
        → cond b (chunk_at image r ∷ up_to m (map (chunk_at image) ranges)) (up_to m (map (chunk_at image) ranges)) ≡ map (chunk_at image) (cond b (r ∷ filter (is_to m) ranges) (filter (is_to m) ranges))
    by rest true = ap (λ (cs : List Chunk). chunk_at image r ∷ cs) rest
    by rest false = rest

-- SAME FILES

module _ (n j m next : ℕ) (a b : Image) (files : List (ℕ × ℕ)) (last : ℕ) (live : (f : ℕ) → is_live files f ≡ true → b f ≡ a f) where
  same_below : (f : ℕ) → take (length_in files f) (b f) ≡ take (length_in files f) (a f)
  same_below f = elim (cases_Bool (is_live files f)) [
    | inl is ↦ ap (λ (l : List ℕ). take (length_in files f) l) (live f is)
    | inr dead ↦ let none = dead_length files f dead in ap (λ (k : ℕ). take k (b f)) none ∙ sym (ap (λ (k : ℕ). take k (a f)) none)
  ]

  same_chunk : (r : Range) → r.at + r.length ≤ length_in files r.file → take r.length (drop r.at (b r.file)) ≡ take r.length (drop r.at (a r.file))
  same_chunk r fits = elim (cases_Bool (is_live files r.file)) [
    | inl is ↦ ap (λ (l : List ℕ). take r.length (drop r.at l)) (live r.file is)
    | inr dead ↦ let none : r.length ≡ 0 = omega (arith, fits, dead_length files r.file dead) in
        ap (λ (k : ℕ). take k (drop r.at (b r.file))) none ∙ sym (ap (λ (k : ℕ). take k (drop r.at (a r.file))) none)
  ]

  within_too : (r : Range) → r.at + r.length ≤ length_in files r.file → r.at + r.length ≤ length (a r.file) → r.at + r.length ≤ length (b r.file)
  within_too r fits was = elim (cases_Bool (is_live files r.file)) [
    | inl is ↦ subst (λ (l : List ℕ). r.at + r.length ≤ length l) (sym (live r.file is)) was
    | inr dead ↦ omega (arith, fits, dead_length files r.file dead)
  ]

  right_too : (r : Range) → r.at + r.length ≤ length_in files r.file → IsRightRange n j next a r → IsRightRange n j next b r
  right_too r fits was = record { within = within_too r fits was.within; right = subst (IsRightChunk n j next) (sym (same_chunk r fits)) was.right }

  all_right_too : (ranges : List Range) → AllWithin files last ranges → AllByRecursion (IsRightRange n j next a) (filter (is_to m) ranges) → AllByRecursion (IsRightRange n j next b) (filter (is_to m) ranges)
  all_right_too [] within all = tt
  all_right_too (r ∷ ranges) within all = let ih = all_right_too ranges within.1.1 in
      (elim (nat_le r.number m) as (λ q. AllByRecursion (IsRightRange n j next a) (cond q (r ∷ filter (is_to m) ranges) (filter (is_to m) ranges))
      → AllByRecursion (IsRightRange n j next b) (cond q (r ∷ filter (is_to m) ranges) (filter (is_to m) ranges))) [
        | true ↦ λ x. (right_too r within.0 x.0, ih x.1)
        | false ↦ λ x. ih x
      ]) all

-- THE SAME AT A STORE

module _ (n j m next : ℕ) (a b : Image) (has : HasLog n j a) (live : (f : ℕ) → is_live (state_of a).files f ≡ true → b f ≡ a f) where
  abbrev ranges_in : List Range
  ranges_in = ranges_of (payloads_of (a 0))

  fits : Fits (state_of a) ranges_in
  fits = all_fit (payloads_of (a 0)) (state_of a) has.allowed

  same_content : map (chunk_at b) ranges_in ≡ map (chunk_at a) ranges_in
  same_content = chunks_kept (state_of a).files (state_of a).last ranges_in a b fits.within (same_below n j m next a b (state_of a).files (state_of a).last live)

  same_to : ranges_to m b ≡ ranges_to m a → up_to m (map (chunk_at b) (ranges_of (payloads_of (b 0)))) ≡ up_to m (map (chunk_at a) ranges_in)
  same_to ranges = chunks_to m b (ranges_of (payloads_of (b 0)))
      ∙ ap (map (chunk_at b)) ranges
      ∙ sym (chunks_to m b ranges_in)
      ∙ ap (up_to m) same_content

  pub shows_again : ranges_to m b ≡ ranges_to m a → HasLog n j b → IsLastOrNext m (state_of b) → next_at m b ≡ next_at m a → HasRightChunks n j next m a → ShowsAt n j m next (disk_at m a) b
  shows_again ranges log agrees next_is right = record {
    log = log;
    agrees = agrees;
    next_id = next_is;
    chunks = subst (AllByRecursion (IsRightRange n j next b)) (sym ranges) (all_right_too n j m next a b (state_of a).files (state_of a).last live ranges_in fits.within right);
    entities = λ x. ap (λ (cs : List Chunk). option_map (λ (o : Occurrence). entity_in o.bytes) (last_of x (flat_map occurrences_of cs))) (same_to ranges);
  }

  -- WITH THE SAME LOG

  pub same_state : payloads_of (b 0) ≡ payloads_of (a 0) → state_of b ≡ state_of a
  same_state same = ap (λ (ps : List (List ℕ)). unwrap_or (inventory_of ps) start) same

  pub shows_same : payloads_of (b 0) ≡ payloads_of (a 0) → IsLogFile (log_header n j) (b 0) → IsLastOrNext m (state_of a) → HasRightChunks n j next m a → ShowsAt n j m next (disk_at m a) b
  shows_same same file agrees right = let state = same_state same in
      shows_again (ap (λ (ps : List (List ℕ)). filter (is_to m) (ranges_of ps)) same)
      record { file = file; allowed = ap inventory_of same ∙ has.allowed ∙ ap Some (sym state) }
      (subst (IsLastOrNext m) (sym state) agrees)
      (ap (λ (s : State). if s.last == m then s.next_id else s.next_id_before) state)
      right

  -- WITHOUT THE LAST STORE

  module _ (file at dropped : ℕ) (last : is_store_at (state_of a).entry file at dropped ≡ true) (ahead : (state_of a).last ≡ m + 1)
      (again : entry_of (spelling (Truncation file at dropped)) ≡ Ok (Truncation file at dropped))
      (payloads : payloads_of (b 0) ≡ payloads_of (a 0) ++ spelling (Truncation file at dropped) ∷ []) where
    undone : Dropped (state_of a) ranges_in
    undone = drops (state_of a) ranges_in (state_of a).entry file at dropped last fits.undone

    inventory : inventory_of (payloads_of (b 0)) ≡ Some (after (state_of a) (Truncation file at dropped))
    inventory = ap inventory_of payloads ∙ one_more (payloads_of (a 0)) (spelling (Truncation file at dropped)) (state_of a) (Truncation file at dropped) has.allowed again last

    pub state_after : state_of b ≡ after (state_of a) (Truncation file at dropped)
    state_after = ap (λ (o : Option State). unwrap_or o start) inventory

    pub last_after : (state_of b).last ≡ m
    last_after = let e = ap (λ (s : State). s.last) state_after in let t = undone.next in omega arith

    ranges_left : ranges_of (payloads_of (b 0)) ≡ undone.front
    ranges_left = ap ranges_of payloads ∙ ranges_push (payloads_of (a 0)) (spelling (Truncation file at dropped)) (Truncation file at dropped) again
        ∙ ap (λ (l : List Range). take (length l - 1) l) undone.split
        ∙ take_at undone.front (undone.last ∷ []) (length (undone.front ++ undone.last ∷ []) - 1) (omega (arith, length_push undone.front undone.last))

    beyond : nat_le undone.last.number m ≡ false
    beyond = let e = undone.number in lt-leb undone.last.number m (omega arith)

    same_ranges : ranges_to m b ≡ ranges_to m a
    same_ranges = ap (filter (is_to m)) ranges_left
        ∙ sym (append-nil (filter (is_to m) undone.front))
        ∙ ap (λ (l : List Range). filter (is_to m) undone.front ++ l) (sym (cond-false (nat_le undone.last.number m) (undone.last ∷ []) [] beyond))
        ∙ sym (filter-append (is_to m) undone.front (undone.last ∷ []))
        ∙ ap (filter (is_to m)) (sym undone.split)

    next_is : next_at m b ≡ next_at m a
    next_is = ap (λ (s : State). if s.last == m then s.next_id else s.next_id_before) state_after
        ∙ ap (λ (q : Bool). cond q (state_of a).next_id_before (state_of a).next_id) (eq-eqb (state_of a).last_before m (let t = undone.next in omega arith))
        ∙ sym (ap (λ (q : Bool). cond q (state_of a).next_id (state_of a).next_id_before) (ne_eqb (state_of a).last m (λ e. omega arith)))

    pub ends_after : IsLogFile (log_header n j) (b 0) → HasRightChunks n j next m a → EndsAt n j m next (disk_at m a) b
    ends_after is_file right = record {
      last = last_after;
      shows = shows_again same_ranges record { file = is_file; allowed = inventory ∙ ap Some (sym state_after) } (inl last_after) next_is right;
    }
