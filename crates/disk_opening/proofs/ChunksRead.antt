-- One more chunk of a log is read, or passed over.
use Rattle.std.proofs.Common.{◌≡◌, ℕ, ◌+◌, ◌-◌, ◌<◌, ◌≤◌, Bool, true, false, cond, nat_le, List, [], ◌∷◌, ◌++◌, length, take, drop, get_or, filter, map, Option, Some, None, refl, sym, ap, ◌∙◌, subst, arith, append_assoc, append-nil, take-append-drop}
use Rattle.std.specs.List.{AllByRecursion, flat_map}
use Rattle.std.specs.FinMap.{FinMap, empty, get, get-empty}
use Rattle.std.specs.Ordering.{nat_cmp}
use Rattle.std.proofs.lemmas.Bool.{le-leb, lt-leb}
use Rattle.std.proofs.lemmas.Grind.{flat_map-append}
use Rattle.std.proofs.lemmas.List.{map-append, take_more}
use Rattle.std.proofs.lemmas.List.Elements.{filter-append}
use Rattle.entity_index.specs.declared.row.Row.{Row}
use Rattle.channel_files.specs.Chunks.{Chunk, Range, chunk_at}
use Rattle.channel_files.specs.Table.{Occurrence, occurrences_of, up_to}
use Rattle.channel.specs.ChunkRule.{IsRightRange}
use Rattle.channel.specs.Images.{Image}
use Rattle.disk_opening.specs.Indexes.{HasRowsOfIds, IsIndexOf, IsReadTo}
use Rattle.disk_opening.specs.Ranges.{range_in}
use Rattle.disk_opening.specs.declared.ranges.ChunkRange.{ChunkRange}

abbrev is_up_to : ℕ → Range → Bool
is_up_to m r = nat_le r.number m

pub all-append : {X : Type 0} (P : X → Type 0) (xs ys : List X) → AllByRecursion P xs → AllByRecursion P ys → AllByRecursion P (xs ++ ys)
all-append P [] ys all more = more
all-append P (x ∷ xs) ys all more = (all.0, all-append P xs ys all.1 more)

all-behind : {X : Type 0} (P : X → Type 0) (xs ys : List X) → AllByRecursion P (xs ++ ys) → AllByRecursion P ys
all-behind P [] ys all = all
all-behind P (x ∷ xs) ys all = all-behind P xs ys all.1

pub no_rows : (rows : FinMap nat_cmp Row) → rows ≡ empty → HasRowsOfIds rows
no_rows rows none id row is = absurd (nothing row (get-empty {X = Row} nat_cmp id) (sym (ap (λ (r : FinMap nat_cmp Row). get r id) none) ∙ is))
  where
    nothing : {o : Option Row} (r : Row) → o ≡ None → o ≡ Some r → ⊥
    nothing r n s = cc

-- before the first chunk
pub none_read : (n j next m : ℕ) (image : Image) (rows : FinMap nat_cmp Row) → rows ≡ empty → IsReadTo n j next m image [] rows
none_read n j next m image rows none = subst (IsReadTo n j next m image []) (sym none) record { right = tt; index = λ id. get-empty {X = Row} nat_cmp id }

module _ (n j next m : ℕ) (image : Image) (ranges : List Range) (r : Range) where
  ranges-push : (b : Bool) → is_up_to m r ≡ b → filter (is_up_to m) (ranges ++ r ∷ []) ≡ filter (is_up_to m) ranges ++ cond b (r ∷ []) []
  ranges-push b is = filter-append (is_up_to m) ranges (r ∷ []) ∙ ap (λ c. filter (is_up_to m) ranges ++ cond c (r ∷ []) []) is

  chunks-push : (b : Bool) → is_up_to m r ≡ b
      → flat_map occurrences_of (up_to m (map (chunk_at image) (ranges ++ r ∷ []))) ≡ flat_map occurrences_of (up_to m (map (chunk_at image) ranges)) ++ cond b (occurrences_of (chunk_at image r)) []
  chunks-push b is =
      let chunks = map (chunk_at image) ranges in
      ap (λ cs. flat_map occurrences_of (up_to m cs)) (map-append (chunk_at image) ranges (r ∷ []))
      ∙ ap (flat_map occurrences_of) (filter-append (λ (c : Chunk). nat_le c.number m) chunks (chunk_at image r ∷ []))
      ∙ flat_map-append occurrences_of (up_to m chunks) (cond (is_up_to m r) (chunk_at image r ∷ []) [])
      ∙ ap (λ os. flat_map occurrences_of (up_to m chunks) ++ os) (last_chunk (is_up_to m r) ∙ ap (λ c. cond c (occurrences_of (chunk_at image r)) []) is)
    where
      last_chunk : (c : Bool) → flat_map occurrences_of (cond c (chunk_at image r ∷ []) []) ≡ cond c (occurrences_of (chunk_at image r)) []
      last_chunk true = append-nil (occurrences_of (chunk_at image r))
      last_chunk false = refl

  pub range_read : (old new : FinMap nat_cmp Row) → nat_le r.number m ≡ true → IsReadTo n j next m image ranges old → IsRightRange n j next image r
      → ((os : List Occurrence) → IsIndexOf old os → IsIndexOf new (os ++ occurrences_of (chunk_at image r))) → IsReadTo n j next m image (ranges ++ r ∷ []) new
  range_read old new within so right index = record {
    right = subst (AllByRecursion (IsRightRange n j next image)) (sym (ranges-push true within)) (all-append (IsRightRange n j next image) (filter (is_up_to m) ranges) (r ∷ []) so.right (right, tt));
    index = subst (IsIndexOf new) (sym (chunks-push true within)) (index (flat_map occurrences_of (up_to m (map (chunk_at image) ranges))) so.index);
  }

  pub range_passed : (rows : FinMap nat_cmp Row) → nat_le r.number m ≡ false → IsReadTo n j next m image ranges rows → IsReadTo n j next m image (ranges ++ r ∷ []) rows
  range_passed rows beyond so = record {
    right = subst (AllByRecursion (IsRightRange n j next image)) (sym (ranges-push false beyond ∙ append-nil (filter (is_up_to m) ranges))) so.right;
    index = subst (IsIndexOf rows) (sym (chunks-push false beyond ∙ append-nil (flat_map occurrences_of (up_to m (map (chunk_at image) ranges))))) so.index;
  }

  -- one that is not right is among those up to the number
  pub range_wrong : (all behind : List Range) → all ≡ (ranges ++ r ∷ []) ++ behind → nat_le r.number m ≡ true → (IsRightRange n j next image r → ⊥)
      → AllByRecursion (IsRightRange n j next image) (filter (is_up_to m) all) → ⊥
  range_wrong all behind split within wrong right =
      let P = IsRightRange n j next image in
      let front = filter (is_up_to m) ranges in
      let back = filter (is_up_to m) behind in
      let parts : filter (is_up_to m) all ≡ (front ++ r ∷ []) ++ back =
      ap (filter (is_up_to m)) split ∙ filter-append (is_up_to m) (ranges ++ r ∷ []) behind ∙ ap (λ l. l ++ back) (ranges-push true within) in
      let here : AllByRecursion P (r ∷ back) = all-behind P front (r ∷ back) (subst (AllByRecursion P) (parts ∙ append_assoc front (r ∷ []) back) right) in
      wrong here.0

-- the chunk of a walk that begins and ends with a range
pub walked_range : (r : ChunkRange) (end : ℕ) → end ≡ r.at + r.length → ◌≡◌ {A = Range} record { number = r.number; file = r.file; at = r.at; length = end - r.at } (range_in r)
walked_range r end is = let size : end - r.at ≡ r.length = omega arith in λ i. record { number = r.number; file = r.file; at = r.at; length = size i }

-- AS THE CODE HAS IT: the chunk at an index of the list

module _ (n j next m : ℕ) (image : Image) (items : List ChunkRange) (i : ℕ) (d : ChunkRange) (within : i < length items) where
  one_more : map range_in (take (i + 1) items) ≡ map range_in (take i items) ++ range_in (get_or items i d) ∷ []
  one_more = ap (map range_in) (take_more items i d within) ∙ map-append range_in (take i items) (get_or items i d ∷ [])

  pub read_on : (image' : Image) (old new : FinMap nat_cmp Row) → image' ≡ image → (get_or items i d).number ≤ m → IsReadTo n j next m image (map range_in (take i items)) old
      → IsRightRange n j next image' (range_in (get_or items i d))
      → ((os : List Occurrence) → IsIndexOf old os → IsIndexOf new (os ++ occurrences_of (chunk_at image' (range_in (get_or items i d))))) → IsReadTo n j next m image (map range_in (take (i + 1) items)) new
  read_on image' old new same low so right index =
      let r = range_in (get_or items i d) in
      subst (λ (rs : List Range). IsReadTo n j next m image rs new) (sym one_more)
      (range_read n j next m image (map range_in (take i items)) r old new (le-leb r.number m low) so
      (subst (λ (q : Image). IsRightRange n j next q r) same right)
      (subst (λ (q : Image). (os : List Occurrence) → IsIndexOf old os → IsIndexOf new (os ++ occurrences_of (chunk_at q r))) same index))

  pub passed_on : (rows : FinMap nat_cmp Row) → m < (get_or items i d).number → IsReadTo n j next m image (map range_in (take i items)) rows → IsReadTo n j next m image (map range_in (take (i + 1) items)) rows
  passed_on rows high so =
      let r = range_in (get_or items i d) in
      subst (λ (rs : List Range). IsReadTo n j next m image rs rows) (sym one_more) (range_passed n j next m image (map range_in (take i items)) r rows (lt-leb r.number m high) so)

  pub wrong_there : (image' : Image) (all : List Range) → image' ≡ image → map range_in items ≡ all → (get_or items i d).number ≤ m → (IsRightRange n j next image' (range_in (get_or items i d)) → ⊥)
      → AllByRecursion (IsRightRange n j next image) (filter (is_up_to m) all) → ⊥
  wrong_there image' all same these low wrong right =
      let r = range_in (get_or items i d) in
      range_wrong n j next m image (map range_in (take i items)) r all (map range_in (drop (i + 1) items))
      (sym these ∙ ap (map range_in) (sym (take-append-drop (i + 1) items)) ∙ map-append range_in (take (i + 1) items) (drop (i + 1) items) ∙ ap (λ rs. rs ++ map range_in (drop (i + 1) items)) one_more)
      (le-leb r.number m low)
      (λ here. wrong (subst (λ (q : Image). IsRightRange n j next q r) (sym same) here))
      right
