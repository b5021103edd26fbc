-- The table of a list of chunks, and one chunk more.
use Rattle.std.proofs.Common.{true, ◌≡◌, ℕ, ◌≤◌, ◌<◌, ◌+◌, ◌-◌, nat_le, if◌then◌else◌, ◌==◌, List, [], ◌∷◌, ◌++◌, length, take, map, Option, Some, None, refl, sym, ◌∙◌, ap, arith}
use Rattle.std.specs.List.{flat_map}
use Rattle.std.specs.Option.{option_or}
use Rattle.std.proofs.lemmas.List.{append-nil, map-append, take_at, length_push}
use Rattle.std.proofs.lemmas.List.Elements.{filter-append}
use Rattle.std.proofs.lemmas.Grind.{flat_map-append}
use Rattle.std.proofs.lemmas.Bool.{and_from, eq-eqb, cond-true, cond-false, le-leb, lt-leb}
use Rattle.gated_log.specs.Log.{payloads_of}
use Rattle.tx_entry.specs.declared.entry.Entry.{Entry}
use Rattle.tx_entry.specs.declared.entry.Entry.TheVariants.{Creation, Store, Transfer, Truncation, Deletion}
use Rattle.transactions_file.specs.Inventory.{State, is_store_at}
use Rattle.channel_files.specs.Stores.{IsStore, drops_from}
use Rattle.transactions_file.specs.Transactions.{Transactions}
use Rattle.channel_files.specs.Channel.{IsOfDisk}
use Rattle.channel_files.specs.Images.{content_after}
use Rattle.channel_files.specs.Chunks.{Range, Chunk, chunk_at, content_of, ranges_of}
use Rattle.channel_files.specs.Table.{Occurrence, occurrences_of, last_of, up_to, table_at, table_of, with_chunk, IsSameTable}
use Rattle.channel_files.specs.Shows.{Shows, HasTables, HasTable, HasStored}
use Rattle.channel_files.proofs.Within.{AllWithin, all_fit, Dropped, drops}

or_later : (a b c : Option Occurrence) → option_or (option_or a b) c ≡ option_or a (option_or b c)
or_later (Some x) b c = refl
or_later None b c = refl

or_none : (a : Option Occurrence) → option_or a None ≡ a
or_none (Some x) = refl
or_none None = refl

-- the last one of both
last-append : (id : ℕ) (a b : List Occurrence) → last_of id (a ++ b) ≡ option_or (last_of id b) (last_of id a)
last-append id [] b = sym (or_none (last_of id b))
last-append id (o ∷ a) b =
    ap (λ (x : Option Occurrence). option_or x (if o.id == id then Some o else None)) (last-append id a b)
    ∙ or_later (last_of id b) (last_of id a) (if o.id == id then Some o else None)

-- a chunk of a store up to the number, or of a transfer
pub table_more : (number : ℕ) (chunks : List Chunk) (c : Chunk) (id : ℕ) → c.number ≤ number → table_at number (chunks ++ c ∷ []) id ≡ with_chunk c (table_at number chunks) id
table_more number chunks c id le =
    ap (λ (l : List Chunk). last_of id (flat_map occurrences_of l))
    (filter-append (λ (c : Chunk). nat_le c.number number) chunks (c ∷ [])
    ∙ ap (λ (l : List Chunk). up_to number chunks ++ l) (cond-true (nat_le c.number number) (c ∷ []) [] (le-leb c.number number le)))
    ∙ ap (λ (l : List Occurrence). last_of id l)
    (flat_map-append occurrences_of (up_to number chunks) (c ∷ []) ∙ ap (λ (l : List Occurrence). flat_map occurrences_of (up_to number chunks) ++ l) (append-nil (occurrences_of c)))
    ∙ last-append id (flat_map occurrences_of (up_to number chunks)) (occurrences_of c)

-- a chunk of a later store
pub table_before : (number : ℕ) (chunks : List Chunk) (c : Chunk) (id : ℕ) → number < c.number → table_at number (chunks ++ c ∷ []) id ≡ table_at number chunks id
table_before number chunks c id lt =
    ap (λ (l : List Chunk). last_of id (flat_map occurrences_of l))
    (filter-append (λ (c : Chunk). nat_le c.number number) chunks (c ∷ [])
    ∙ ap (λ (l : List Chunk). up_to number chunks ++ l) (cond-false (nat_le c.number number) (c ∷ []) [] (lt-leb c.number number lt))
    ∙ append-nil (up_to number chunks))

-- no chunk has a number above the last
up_to_all : (reads : ℕ → List ℕ) (files : List (ℕ × ℕ)) (last more : ℕ) (ranges : List Range) → AllWithin files last ranges → last ≤ more → up_to more (map (chunk_at reads) ranges) ≡ map (chunk_at reads) ranges
up_to_all reads files last more [] all le = refl
up_to_all reads files last more (r ∷ ranges) all le =
    cond-true (nat_le r.number more) (chunk_at reads r ∷ up_to more (map (chunk_at reads) ranges)) (up_to more (map (chunk_at reads) ranges)) (le-leb r.number more (omega (arith, all.1.0, le)))
    ∙ ap (λ (l : List Chunk). chunk_at reads r ∷ l) (up_to_all reads files last more ranges all.1.1 le)

-- so from the last number on the table is the same
pub table_from : (reads : ℕ → List ℕ) (files : List (ℕ × ℕ)) (last more : ℕ) (ranges : List Range) → AllWithin files last ranges → last ≤ more → (id : ℕ)
    → table_at more (map (chunk_at reads) ranges) id ≡ table_at last (map (chunk_at reads) ranges) id
table_from reads files last more ranges all le id =
    ap (λ (l : List Chunk). last_of id (flat_map occurrences_of l))
    (up_to_all reads files last more ranges all le ∙ sym (up_to_all reads files last last ranges all (omega arith)))

-- the table of an image is that of the chunks that it shows
pub table_shown : {header : List ℕ} {last next_id newest before : ℕ} {chunks : List Chunk} (image : ℕ → List ℕ) → Shows header last next_id newest before chunks image
    → (number id : ℕ) → table_of image number id ≡ table_at number chunks id
table_shown image shows number id = ap (λ (l : List Chunk). table_at number l id) shows.content

pub shown_before : {header : List ℕ} {last next_id newest before : ℕ} (reads image : ℕ → List ℕ) → Shows header last next_id newest before (content_of reads) image → HasTables last (table_of reads) image
shown_before reads image shows = record { state = shows.state; inventory = shows.inventory; last_is = shows.last_is; same = table_shown image shows }

-- a store's chunk comes last
module _ (t : Transactions) (r0 : ℕ → List ℕ) (d : IsOfDisk t r0) (c : Chunk) (next : c.number ≡ t.inventory.state.last + 1) where
  table_after : (id : ℕ) → table_at c.number (content_of r0 ++ c ∷ []) id ≡ with_chunk c (table_of r0 t.inventory.state.last) id
  table_after id =
      table_more c.number (content_of r0) c id (omega arith)
      ∙ ap (λ (o : Option Occurrence). option_or (last_of id (occurrences_of c)) o)
      (table_from r0 t.inventory.state.files t.inventory.state.last c.number (ranges_of (payloads_of (r0 0))) (all_fit (payloads_of (r0 0)) t.inventory.state d.kept.inventory).within (omega (arith, next)) id)

  pub now_read : (r1 : ℕ → List ℕ) → content_of r1 ≡ content_of r0 ++ c ∷ [] → IsSameTable (with_chunk c (table_of r0 t.inventory.state.last)) (table_of r1 c.number)
  now_read r1 same id = ap (λ (l : List Chunk). table_at c.number l id) same ∙ table_after id

  pub earlier_read : (r1 : ℕ → List ℕ) → content_of r1 ≡ content_of r0 ++ c ∷ [] → IsSameTable (table_of r0 t.inventory.state.last) (table_of r1 (c.number - 1))
  earlier_read r1 same id =
      let less : c.number - 1 ≡ t.inventory.state.last = omega (arith, next) in
      ap (λ (l : List Chunk). table_at (c.number - 1) l id) same
      ∙ ap (λ (k : ℕ). table_at k (content_of r0 ++ c ∷ []) id) less
      ∙ table_before t.inventory.state.last (content_of r0) c id (omega (arith, next))

  pub shown_after : {header : List ℕ} {last next_id newest before : ℕ} (image : ℕ → List ℕ) → last ≡ c.number → Shows header last next_id newest before (content_of r0 ++ c ∷ []) image
      → HasStored c.number (table_of r0 t.inventory.state.last) (with_chunk c (table_of r0 t.inventory.state.last)) image
  shown_after image is shows = record {
    now = record { state = shows.state; inventory = shows.inventory; last_is = shows.last_is ∙ is; same = now_read image shows.content };
    earlier = earlier_read image shows.content;
  }

-- the last store is dropped
module _ (t : Transactions) (r0 : ℕ → List ℕ) (d : IsOfDisk t r0) (file at number : ℕ) (last : is_store_at t.inventory.state.entry file at number ≡ true) where
  pub dropped : Dropped t.inventory.state (ranges_of (payloads_of (r0 0)))
  dropped = drops t.inventory.state (ranges_of (payloads_of (r0 0))) t.inventory.state.entry file at number last (all_fit (payloads_of (r0 0)) t.inventory.state d.kept.inventory).undone

  pub number_dropped : t.inventory.state.last ≡ t.inventory.state.last_before + 1
  number_dropped = dropped.next

  pub content_split : content_of r0 ≡ map (chunk_at r0) dropped.front ++ chunk_at r0 dropped.last ∷ []
  content_split = ap (λ (l : List Range). map (chunk_at r0) l) dropped.split ∙ map-append (chunk_at r0) dropped.front (dropped.last ∷ [])

  pub content_dropped : content_after r0 (Truncation file at number) ≡ take (length (content_of r0) - 1) (content_of r0)
  content_dropped =
      ap (λ (l : List Range). map (chunk_at r0) (take (length l - 1) l)) dropped.split
      ∙ ap (λ (l : List Range). map (chunk_at r0) l) (take_at dropped.front (dropped.last ∷ []) (length (dropped.front ++ dropped.last ∷ []) - 1) (omega (arith, length_push dropped.front dropped.last)))
      ∙ sym (ap (λ (l : List Chunk). take (length l - 1) l) content_split
      ∙ take_at (map (chunk_at r0) dropped.front) (chunk_at r0 dropped.last ∷ []) (length (map (chunk_at r0) dropped.front ++ chunk_at r0 dropped.last ∷ []) - 1)
      (omega (arith, length_push (map (chunk_at r0) dropped.front) (chunk_at r0 dropped.last))))

  pub table_dropped : IsSameTable (table_of r0 t.inventory.state.last_before) (table_at t.inventory.state.last_before (take (length (content_of r0) - 1) (content_of r0)))
  table_dropped id =
      let front = map (chunk_at r0) dropped.front in
      let newest = chunk_at r0 dropped.last in
      ap (λ (l : List Chunk). table_at t.inventory.state.last_before (take (length l - 1) l) id) content_split
      ∙ ap (λ (l : List Chunk). table_at t.inventory.state.last_before l id) (take_at front (newest ∷ []) (length (front ++ newest ∷ []) - 1) (omega (arith, length_push front newest)))
      ∙ sym (ap (λ (l : List Chunk). table_at t.inventory.state.last_before l id) content_split
      ∙ table_before t.inventory.state.last_before front newest id (omega (arith, dropped.number, dropped.next)))

  pub shown_dropped : {header : List ℕ} {next_id newest before : ℕ} (image : ℕ → List ℕ) → Shows header t.inventory.state.last_before next_id newest before (take (length (content_of r0) - 1) (content_of r0)) image
      → HasTable t.inventory.state.last_before (table_of r0 t.inventory.state.last_before) image
  shown_dropped image shows = record {
    state = shows.state;
    inventory = shows.inventory;
    last_is = shows.last_is;
    same = λ id. ap (λ (l : List Chunk). table_at t.inventory.state.last_before l id) shows.content ∙ table_dropped id;
  }

-- a store that is the last entry stands somewhere
pub store_at : (o : Option Entry) → IsStore o → (file : ℕ) × ((at : ℕ) × ((number : ℕ) × (is_store_at o file at number ≡ true)))
store_at (Some (Store n file at len next_id)) is = (file, (at, (n, and_from (n == n) _ (eq-eqb n n refl) (and_from (file == file) _ (eq-eqb file file refl) (eq-eqb at at refl)))))
store_at (Some (Creation f)) is = absurd is
store_at (Some (Transfer source f at len)) is = absurd is
store_at (Some (Truncation f m e)) is = absurd is
store_at (Some (Deletion f)) is = absurd is
store_at None is = absurd is

pub drops_last : (s : State) (o : Option Entry) → IsStore o → (drops_from s o).last ≡ s.last_before
drops_last s (Some (Store n file at len next_id)) is = refl
drops_last s (Some (Creation f)) is = absurd is
drops_last s (Some (Transfer source f at len)) is = absurd is
drops_last s (Some (Truncation f m e)) is = absurd is
drops_last s (Some (Deletion f)) is = absurd is
drops_last s None is = absurd is
