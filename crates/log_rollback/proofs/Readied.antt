-- A channel whose log was taken back can be made.
use Rattle.std.proofs.Common.{◌≡◌, ℕ, zero, suc, ◌+◌, ◌≤◌, nat_le, Bool, true, false, IsTrue, cond, List, [], ◌∷◌, length, take, map, unwrap_or, Option, sym, ap, ◌∙◌, subst, arith, inl, inr, ⊎_elim}
use Rattle.std.specs.Prelude.{All}
use Rattle.std.specs.List.{AllByRecursion, filter}
use Rattle.std.proofs.lemmas.Bool.{cases_Bool, cond-true, le-leb}
use Rattle.gated_log.specs.Log.{IsLogOf, payloads_of}
use Rattle.transactions_file.specs.Files.{is_live, length_in}
use Rattle.transactions_file.specs.Inventory.{State, start}
use Rattle.transactions_file.specs.Transactions.{Transactions}
use Rattle.transactions_file.proofs.Lengths.{dead_length, live_set}
use Rattle.data_file.specs.Chunks.{IsChunk}
use Rattle.channel_files.specs.Chunks.{Chunk, Range, chunk_at, ranges_of}
use Rattle.channel_files.specs.Images.{AgreesBelow}
use Rattle.channel_files.specs.Table.{up_to}
use Rattle.channel_files.proofs.Within.{AllWithin, Fits, all_fit, two_up}
use Rattle.channel.specs.ChunkRule.{IsRightChunk, IsRightRange}
use Rattle.channel.specs.Images.{Image, IsLogFile, log_header, state_of}
use Rattle.channel.specs.Shown.{ShowsAt, disk_at}
use Rattle.store_opening.specs.Left.{Leaves}
use Rattle.store_opening.proofs.ShownAgain.{ends_after, same_state, shows_same, state_after}
use Rattle.log_rollback.specs.Ready.{IsReadyToStart, IsRolledBack}
use Rattle.log_rollback.proofs.FileEnds.{HasRangeTo, all_end}

abbrev is_to : ℕ → Range → Bool
is_to m r = nat_le r.number m

-- where no chunk has a greater number, those up to the number are all
all_of : (P : Range → Type 0) (m : ℕ) (files : List (ℕ × ℕ)) (last : ℕ) (ranges : List Range) → last ≤ m → AllWithin files last ranges → AllByRecursion P (filter (is_to m) ranges) → AllByRecursion P ranges
all_of P m files last [] le within all = tt
all_of P m files last (r ∷ ranges) le within all =
    let rest = filter (is_to m) ranges in
    let t = subst (AllByRecursion P) (cond-true (is_to m r) (r ∷ rest) rest (le-leb r.number m (omega (arith, within.1.0, le)))) all in
    (t.0, all_of P m files last ranges le within.1.1 t.1)

all_by : {X : Type 0} (P : X → Type 0) (xs : List X) → AllByRecursion P xs → All P xs
all_by P [] all k d lt = absurd (omega arith)
all_by P (x ∷ xs) all zero d lt = all.0
all_by P (x ∷ xs) all (suc k) d lt = all_by P xs all.1 k d (omega arith)

module _ (n j next : ℕ) (image : Image) where
  wholes : (ranges : List Range) → AllByRecursion (IsRightRange n j next image) ranges → AllByRecursion (λ (c : Chunk). IsChunk c.bytes) (map (chunk_at image) ranges)
  wholes [] all = tt
  wholes (r ∷ ranges) all = (all.0.right.whole, wholes ranges all.1)

  rights : (m : ℕ) (ranges : List Range) → AllByRecursion (IsRightRange n j next image) ranges → AllByRecursion (λ (c : Chunk). IsRightChunk n j next c.bytes) (up_to m (map (chunk_at image) ranges))
  rights m [] all = tt
  rights m (r ∷ ranges) all = by (rights m ranges all.1) (nat_le r.number m)
    where
      by : AllByRecursion (λ (c : Chunk). IsRightChunk n j next c.bytes) (up_to m (map (chunk_at image) ranges)) → (b : Bool)
          → AllByRecursion (λ (c : Chunk). IsRightChunk n j next c.bytes) (cond b (chunk_at image r ∷ up_to m (map (chunk_at image) ranges)) (up_to m (map (chunk_at image) ranges)))
      by rest true = (all.0.right, rest)
      by rest false = rest

  reaches : (f k : ℕ) (ranges : List Range) → AllByRecursion (IsRightRange n j next image) ranges → HasRangeTo f k ranges → k ≤ length (image f)
  reaches f k [] all is = absurd is
  reaches f k (r ∷ ranges) all (inl is) =
      let within : r.at + r.length ≤ length (image f) = subst (λ (g : ℕ). r.at + r.length ≤ length (image g)) is.0 all.0.within in
      omega (arith, is.1)
  reaches f k (r ∷ ranges) all (inr is) = reaches f k ranges all.1 is

module _ (n j next m : ℕ) (old new : Image) (leaves : Leaves) (t : Transactions) (is : IsRolledBack n j next m old new leaves t) where
  live_same : (f : ℕ) → is_live (state_of old).files f ≡ true → new f ≡ old f
  live_same f live = is.files f (two_up (state_of old) (all_fit (payloads_of (old 0)) (state_of old) is.has.allowed).sound f live)

  log_file : IsLogFile (log_header n j) (new 0)
  log_file = inr is.finished.is_log

  shows : ShowsAt n j m next (disk_at m old) new
  shows = ⊎_elim
      (λ s. shows_same n j m next old new is.has live_same s.1 log_file (inl s.0) is.chunks)
      (λ s. (ends_after n j m next old new is.has live_same s.1.file s.1.at s.1.dropped s.1.last s.0 s.1.again s.1.split log_file is.chunks).shows)
      is.finished.same

  live_still : (f : ℕ) → is_live (state_of new).files f ≡ true → is_live (state_of old).files f ≡ true
  live_still f = ⊎_elim {C = is_live (state_of new).files f ≡ true → is_live (state_of old).files f ≡ true}
      (λ s live. subst (λ (q : State). is_live q.files f ≡ true) (same_state n j m next old new is.has live_same s.1) live)
      (λ s live. sym (live_set (state_of old).files s.1.file s.1.at f) ∙ subst (λ (q : State). is_live q.files f ≡ true) (state_after n j m next old new is.has live_same s.1.file s.1.at s.1.dropped s.1.last s.0 s.1.again s.1.split) live)
      is.finished.same

  state : state_of new ≡ t.inventory.state
  state = ap (λ (o : Option State). unwrap_or o start) is.open_.kept.inventory

  fits : Fits (state_of new) (ranges_of (payloads_of (new 0)))
  fits = all_fit (payloads_of (new 0)) (state_of new) shows.log.allowed

  right_ranges : AllByRecursion (IsRightRange n j next new) (ranges_of (payloads_of (new 0)))
  right_ranges = all_of (IsRightRange n j next new) m (state_of new).files (state_of new).last (ranges_of (payloads_of (new 0)))
      (let e = ap (λ (s : State). s.last) state in omega (arith, e, is.open_.last)) fits.within shows.chunks

  long_in : (f : ℕ) → length_in (state_of new).files f ≤ length (new f)
  long_in f = ⊎_elim
      (λ none. omega (arith, none))
      (λ ends. reaches n j next new f (length_in (state_of new).files f) (ranges_of (payloads_of (new 0))) right_ranges ends)
      ((all_end (payloads_of (new 0)) (state_of new) shows.log.allowed).ends f)

  long : (f : ℕ) → length_in t.inventory.state.files f ≤ length (new f)
  long f = subst (λ (s : State). length_in s.files f ≤ length (new f)) state (long_in f)

  -- a stop leaves the live files as they are read
  left_live : (image : Image) → ((f : ℕ) → IsTrue (leaves f (image f))) → (f : ℕ) → is_live t.inventory.state.files f ≡ true → image f ≡ new f
  left_live image left f live =
      let was = live_still f (subst (λ (s : State). is_live s.files f ≡ true) (sym state) live) in
      is.files_synced f was (image f) (left f) ∙ sym (live_same f was)

  agrees : (image : Image) → ((f : ℕ) → IsTrue (leaves f (image f))) → AgreesBelow t.inventory.state.files new image
  agrees image left = record {
    long = λ f. elim (cases_Bool (is_live t.inventory.state.files f)) [
      | inl live ↦ subst (λ (l : List ℕ). length_in t.inventory.state.files f ≤ length l) (sym (left_live image left f live)) (long f)
      | inr dead ↦ omega (arith, dead_length t.inventory.state.files f dead)
    ];
    same = λ f. elim (cases_Bool (is_live t.inventory.state.files f)) [
      | inl live ↦ ap (λ (l : List ℕ). take (length_in t.inventory.state.files f) l) (left_live image left f live)
      | inr dead ↦ let none = dead_length t.inventory.state.files f dead in ap (λ (k : ℕ). take k (image f)) none ∙ sym (ap (λ (k : ℕ). take k (new f)) none)
    ];
  }

  pub ready : IsReadyToStart n j next m new leaves t
  ready = record {
    header = is.header.header_is;
    last = is.open_.last;
    of_disk = record { file = is.header.file; kept = is.open_.kept; long = long };
    whole = all_by (λ (c : Chunk). IsChunk c.bytes) (map (chunk_at new) (ranges_of (payloads_of (new 0)))) (wholes n j next new (ranges_of (payloads_of (new 0))) right_ranges);
    right = rights n j next new m (ranges_of (payloads_of (new 0))) right_ranges;
    as_read = λ image left. record {
      is_log = subst (IsLogOf t.log.header (payloads_of (new 0))) (sym (is.synced (image 0) (left 0))) is.open_.kept.log.is;
      agrees = agrees image left;
    };
  }
