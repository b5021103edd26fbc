-- The bytes of entities: how they are written one after the other, read again, and told apart.
use Rattle.std.proofs.Common.{◌≡◌, ℕ, suc, ◌+◌, ◌*◌, ◌%◌, ◌^◌, ◌≤◌, ◌<◌, List, [], ◌∷◌, ◌++◌, length, get_or, take, drop, Option, Some, None, refl, sym, ap, subst, ◌∙◌, append_assoc, arith}
use Rattle.std.specs.List.{AllByRecursion}
use Rattle.std.proofs.lemmas.Grind.{flat_map-append, take_at_read}
use Rattle.std.proofs.lemmas.List.{length-append, length-take, length-drop, append-nil, drop-drop, drop_all, take-append-drop}
use Rattle.field_bytes.specs.Fields.{bytes_of, number_at, with_bytes, with_number}
use Rattle.field_bytes.proofs.Laws.{length-bytes_of, number_at-bytes_of, drop-bytes_of, number_at-drop, number_at-none, number_of_8, IsBytes, IsBytes-drop, with_number-bytes, with_bytes-behind}
use Rattle.graph_model.specs.Graph.{entity_size}
use Rattle.graph_model.specs.declared.entity.Entity.{Entity}
use Rattle.entity_form.specs.declared.places.Header.{Header}
use Rattle.entity_form.specs.Spelling.{IsEntity, numbers_of, numbers_bytes, entity_bytes, IsHeaderOf}

abbrev FitsNumber : ℕ → Type 0
FitsNumber x = x < 2 ^ 64

-- the numbers before the references
abbrev header_numbers : ℕ × Entity → List ℕ
header_numbers r = entity_size r.1 ∷ r.1.type_id ∷ r.0 ∷ length r.1.refs ∷ []

pub length-numbers_bytes : (xs : List ℕ) → length (numbers_bytes xs) ≡ 8 * length xs
length-numbers_bytes [] = refl
length-numbers_bytes (x ∷ xs) = omega (arith, length-append (bytes_of 8 x) (numbers_bytes xs), length-bytes_of 8 x, length-numbers_bytes xs)

numbers_bytes-push : (xs : List ℕ) (x : ℕ) → numbers_bytes (xs ++ x ∷ []) ≡ numbers_bytes xs ++ bytes_of 8 x
numbers_bytes-push xs x = flat_map-append (bytes_of 8) xs (x ∷ []) ∙ ap (λ (t : List ℕ). numbers_bytes xs ++ t) (append-nil (bytes_of 8 x))

-- the bytes in three parts
entity_bytes-parts : (r : ℕ × Entity) → entity_bytes r ≡ numbers_bytes (header_numbers r) ++ (numbers_bytes r.1.refs ++ r.1.plain)
unfolding entity_bytes
entity_bytes-parts r =
    ap (λ (t : List ℕ). t ++ r.1.plain) (flat_map-append (bytes_of 8) (header_numbers r) r.1.refs)
    ∙ append_assoc (numbers_bytes (header_numbers r)) (numbers_bytes r.1.refs) r.1.plain

pub length-entity_bytes : (r : ℕ × Entity) → length (entity_bytes r) ≡ entity_size r.1
unfolding entity_bytes
length-entity_bytes r = omega (arith, length-append (numbers_bytes (numbers_of r)) r.1.plain, length-numbers_bytes (numbers_of r))

-- ---- writing

pub put_one : (out : List ℕ) (at : ℕ) (numbers : List ℕ) (i place : ℕ) → i < length numbers → at + 8 * length numbers ≤ length out → place ≡ at + 8 * i
    → with_number 8 (with_bytes out at (numbers_bytes (take i numbers))) place (get_or numbers i 0) ≡ with_bytes out at (numbers_bytes (take (i + 1) numbers))
put_one out at numbers i place lt room place_is =
    let number = get_or numbers i 0 in
    let before = numbers_bytes (take i numbers) in
    let len : length before ≡ 8 * i = omega (arith, length-numbers_bytes (take i numbers), length-take i numbers) in
    let here : place ≡ at + length before = omega arith in
    let more : numbers_bytes (take (i + 1) numbers) ≡ before ++ bytes_of 8 number = ap numbers_bytes (take_at_read numbers i 0 lt).1 ∙ numbers_bytes-push (take i numbers) number in
    with_number-bytes 8 (with_bytes out at before) place number
    ∙ ap (λ (p : ℕ). with_bytes (with_bytes out at before) p (bytes_of 8 number)) here
    ∙ with_bytes-behind out at before (bytes_of 8 number) (omega arith)
    ∙ ap (with_bytes out at) (sym more)

pub put_parts : (out : List ℕ) (at : ℕ) (r : ℕ × Entity) (behind_header behind_refs : ℕ) → at + entity_size r.1 ≤ length out → behind_header ≡ at + 32 → behind_refs ≡ behind_header + 8 * length r.1.refs
    → with_bytes (with_bytes (with_bytes out at (numbers_bytes (header_numbers r))) behind_header (numbers_bytes r.1.refs)) behind_refs r.1.plain ≡ with_bytes out at (entity_bytes r)
put_parts out at r behind_header behind_refs room header_is refs_is =
    let header = numbers_bytes (header_numbers r) in
    let refs = numbers_bytes r.1.refs in
    let header_len : length header ≡ 32 = length-numbers_bytes (header_numbers r) in
    let refs_len : length refs ≡ 8 * length r.1.refs = length-numbers_bytes r.1.refs in
    let first : with_bytes (with_bytes out at header) behind_header refs ≡ with_bytes out at (header ++ refs) =
    ap (λ (p : ℕ). with_bytes (with_bytes out at header) p refs) (omega arith) ∙ with_bytes-behind out at header refs (omega arith) in
    let place : behind_refs ≡ at + length (header ++ refs) = omega (arith, length-append header refs) in
    ap (λ (t : List ℕ). with_bytes t behind_refs r.1.plain) first
    ∙ ap (λ (p : ℕ). with_bytes (with_bytes out at (header ++ refs)) p r.1.plain) place
    ∙ with_bytes-behind out at (header ++ refs) r.1.plain (omega (arith, length-append header refs))
    ∙ ap (with_bytes out at) (append_assoc header refs r.1.plain ∙ sym (entity_bytes-parts r))

-- ---- telling apart

some_same : (x y : ℕ) (a b : Option ℕ) → a ≡ Some x → b ≡ Some y → a ≡ b → x ≡ y
some_same x y a b p q e = cc

fits_field : (x : ℕ) → FitsNumber x → x < 256 ^ 8
fits_field x h = omega arith

-- as many numbers with the same bytes are the same
numbers_same : (xs ys p q : List ℕ) → AllByRecursion FitsNumber xs → AllByRecursion FitsNumber ys → length xs ≡ length ys → numbers_bytes xs ++ p ≡ numbers_bytes ys ++ q → (xs ≡ ys) × (p ≡ q)
numbers_same [] [] p q xs_fit ys_fit len e = (refl, e)
numbers_same [] (y ∷ ys) p q xs_fit ys_fit len e = absurd (omega arith)
numbers_same (x ∷ xs) [] p q xs_fit ys_fit len e = absurd (omega arith)
numbers_same (x ∷ xs) (y ∷ ys) p q xs_fit ys_fit len e =
    let behind_x = numbers_bytes xs ++ p in
    let behind_y = numbers_bytes ys ++ q in
    let e' : bytes_of 8 x ++ behind_x ≡ bytes_of 8 y ++ behind_y = sym (append_assoc (bytes_of 8 x) (numbers_bytes xs) p) ∙ e ∙ append_assoc (bytes_of 8 y) (numbers_bytes ys) q in
    let first : x ≡ y =
    some_same x y (number_at 8 (bytes_of 8 x ++ behind_x) 0) (number_at 8 (bytes_of 8 y ++ behind_y) 0)
    (number_at-bytes_of 8 x behind_x (fits_field x xs_fit.0)) (number_at-bytes_of 8 y behind_y (fits_field y ys_fit.0)) (ap (λ (b : List ℕ). number_at 8 b 0) e') in
    let rest : behind_x ≡ behind_y = sym (drop-bytes_of 8 x behind_x) ∙ ap (drop 8) e' ∙ drop-bytes_of 8 y behind_y in
    let others = numbers_same xs ys p q xs_fit.1 ys_fit.1 (omega arith) rest in
    (rw (first, others.0) refl, others.1)

header_fits : (r : ℕ × Entity) → IsEntity r → AllByRecursion FitsNumber (header_numbers r)
header_fits r is = (omega (arith, is.size), (omega (arith, is.type_id), (omega (arith, is.id), (omega (arith, is.size), tt))))

abbrev entity_from : ℕ → ℕ → List ℕ → List ℕ → ℕ × Entity
entity_from id type_id refs plain = (id, record { type_id = type_id; refs = refs; plain = plain })

same_parts : (i j t u : ℕ) (a b p q : List ℕ) → i ≡ j → t ≡ u → a ≡ b → p ≡ q → entity_from i t a p ≡ entity_from j u b q
same_parts i j t u a b p q ids types refs plain = rw (ids, types, refs, plain) refl

-- heads of equal lists of four are equal
record SameFour (a b c d x y z w : ℕ) : Type 0 where
  pub first : a ≡ x
  pub second : b ≡ y
  pub third : c ≡ z
  pub fourth : d ≡ w

abbrev four : ℕ → ℕ → ℕ → ℕ → List ℕ
four a b c d = a ∷ b ∷ c ∷ d ∷ []

same_four : (a b c d x y z w : ℕ) → four a b c d ≡ four x y z w → SameFour a b c d x y z w
same_four a b c d x y z w e = record { first = cc; second = cc; third = cc; fourth = cc }

no_more : (more : List ℕ) → length more ≡ 0 → more ≡ []
no_more [] e = refl
no_more (b ∷ bs) e = absurd (omega arith)

-- a spelling that begins another is that one
pub told_apart : (r s : ℕ × Entity) (more : List ℕ) → IsEntity r → IsEntity s → entity_bytes r ++ more ≡ entity_bytes s → (more ≡ []) × (r ≡ s)
told_apart r s more r_is s_is e =
    let behind = numbers_bytes r.1.refs ++ (r.1.plain ++ more) in
    let front : entity_bytes r ++ more ≡ numbers_bytes (header_numbers r) ++ behind =
    ap (λ (t : List ℕ). t ++ more) (entity_bytes-parts r)
    ∙ append_assoc (numbers_bytes (header_numbers r)) (numbers_bytes r.1.refs ++ r.1.plain) more
    ∙ ap (λ (t : List ℕ). numbers_bytes (header_numbers r) ++ t) (append_assoc (numbers_bytes r.1.refs) r.1.plain more) in
    let headers = numbers_same (header_numbers r) (header_numbers s) behind (numbers_bytes s.1.refs ++ s.1.plain) (header_fits r r_is) (header_fits s s_is) refl (sym front ∙ e ∙ entity_bytes-parts s) in
    let same = same_four (entity_size r.1) r.1.type_id r.0 (length r.1.refs) (entity_size s.1) s.1.type_id s.0 (length s.1.refs) headers.0 in
    let tails = numbers_same r.1.refs s.1.refs (r.1.plain ++ more) s.1.plain r_is.refs s_is.refs same.fourth headers.1 in
    let len : length more ≡ 0 = omega (arith, ap length e, length-append (entity_bytes r) more, length-entity_bytes r, length-entity_bytes s, same.first) in
    let none : more ≡ [] = no_more more len in
    let plain : r.1.plain ≡ s.1.plain = sym (append-nil r.1.plain) ∙ ap (λ (t : List ℕ). r.1.plain ++ t) (sym none) ∙ tails.1 in
    (none, same_parts r.0 s.0 r.1.type_id s.1.type_id r.1.refs s.1.refs r.1.plain s.1.plain same.third same.second tails.0 plain)

-- ---- reading

AllByRecursion-push : (P : ℕ → Type 0) (xs : List ℕ) (x : ℕ) → AllByRecursion P xs → P x → AllByRecursion P (xs ++ x ∷ [])
AllByRecursion-push P [] x all is = (is, tt)
AllByRecursion-push P (y ∷ ys) x all is = (all.0, AllByRecursion-push P ys x all.1 is)

pub bytes_fit : (bytes : List ℕ) → IsBytes bytes → AllByRecursion (λ b. b < 256) bytes
bytes_fit [] is = tt
bytes_fit (b ∷ bs) is = (is 0, bytes_fit bs (λ i. is (suc i)))

-- the numbers of the bytes before a place
pub record IsReadTo (bytes numbers : List ℕ) (place : ℕ) : Type 0 where
  pub counted : place ≡ 8 * length numbers
  pub within : place ≤ length bytes
  pub spelled : bytes ≡ numbers_bytes numbers ++ drop place bytes
  pub fit : AllByRecursion (λ x. x < 2 ^ 64) numbers

pub nothing_read : (bytes : List ℕ) → IsReadTo bytes [] 0
nothing_read bytes = record { counted = refl; within = omega arith; spelled = refl; fit = tt }

pub one_more_read : (bytes numbers : List ℕ) (place n : ℕ) → IsBytes bytes → IsReadTo bytes numbers place → number_at 8 bytes place ≡ Some n → IsReadTo bytes (numbers ++ n ∷ []) (place + 8)
one_more_read bytes numbers place n fits so_far e =
    let behind = drop place bytes in
    let number = number_of_8 behind n (IsBytes-drop place bytes fits) (number_at-drop 8 bytes place so_far.within ∙ e) in
    let long : 8 ≤ length behind = omega (arith, ap length number.parts, length-append (bytes_of 8 n) (drop 8 behind), length-bytes_of 8 n) in
    record {
      counted = omega (arith, so_far.counted, length-append numbers (n ∷ []));
      within = omega (arith, length-drop place bytes, so_far.within);
      spelled = so_far.spelled ∙ ap (λ (t : List ℕ). numbers_bytes numbers ++ t) (number.parts ∙ ap (λ (t : List ℕ). bytes_of 8 n ++ t) (drop-drop 8 place bytes))
          ∙ sym (append_assoc (numbers_bytes numbers) (bytes_of 8 n) (drop (place + 8) bytes)) ∙ ap (λ (t : List ℕ). t ++ drop (place + 8) bytes) (sym (numbers_bytes-push numbers n));
      fit = AllByRecursion-push FitsNumber numbers n so_far.fit number.small;
    }

pub all_read : (bytes numbers : List ℕ) (place : ℕ) → length bytes % 8 ≡ 0 → IsReadTo bytes numbers place → number_at 8 bytes place ≡ None → bytes ≡ numbers_bytes numbers
all_read bytes numbers place whole so_far e =
    let past : length bytes < place + 8 = number_at-none 8 bytes place e in
    let end : length bytes ≤ place = omega (arith, so_far.counted, so_far.within) in
    so_far.spelled ∙ ap (λ (t : List ℕ). numbers_bytes numbers ++ t) (drop_all place bytes end) ∙ append-nil (numbers_bytes numbers)

-- ---- headers

-- the bytes begin with the numbers of this header
pub record BeginsWithHeader (bytes : List ℕ) (h : Header) : Type 0 where
  pub length_is : number_at 8 bytes 0 ≡ Some h.length
  pub type_id_is : number_at 8 bytes 8 ≡ Some h.type_id
  pub id_is : number_at 8 bytes 16 ≡ Some h.id
  pub count_is : number_at 8 bytes 24 ≡ Some h.count

in_four : (a b c d rest : List ℕ) → (a ++ (b ++ (c ++ (d ++ [])))) ++ rest ≡ a ++ (b ++ (c ++ (d ++ rest)))
in_four a b c d rest = simp append_assoc

in_fields : (r : ℕ × Entity) → entity_bytes r ≡ bytes_of 8 (entity_size r.1) ++ (bytes_of 8 r.1.type_id ++ (bytes_of 8 r.0 ++ (bytes_of 8 (length r.1.refs) ++ (numbers_bytes r.1.refs ++ r.1.plain))))
in_fields r =
    entity_bytes-parts r
    ∙ in_four (bytes_of 8 (entity_size r.1)) (bytes_of 8 r.1.type_id) (bytes_of 8 r.0) (bytes_of 8 (length r.1.refs)) (numbers_bytes r.1.refs ++ r.1.plain)

-- a number of eight bytes, and the place behind it
next_number : (bytes : List ℕ) (at n : ℕ) (rest : List ℕ) → at ≤ length bytes → drop at bytes ≡ bytes_of 8 n ++ rest → n < 2 ^ 64 → (number_at 8 bytes at ≡ Some n) × (drop (at + 8) bytes ≡ rest) × (at + 8 ≤ length bytes)
next_number bytes at n rest within e small =
    let read : number_at 8 bytes at ≡ Some n = sym (number_at-drop 8 bytes at within) ∙ ap (λ (b : List ℕ). number_at 8 b 0) e ∙ number_at-bytes_of 8 n rest (fits_field n small) in
    let behind : drop (at + 8) bytes ≡ rest = sym (drop-drop 8 at bytes) ∙ ap (drop 8) e ∙ drop-bytes_of 8 n rest in
    (read, behind, omega (arith, ap length e, length-append (bytes_of 8 n) rest, length-bytes_of 8 n, length-drop at bytes))

-- the header that the entity's bytes begin with
abbrev header_of : ℕ × Entity → Header
header_of r = record { length = entity_size r.1; type_id = r.1.type_id; id = r.0; count = length r.1.refs }

begins_with_header : (r : ℕ × Entity) (bytes : List ℕ) → IsEntity r → bytes ≡ entity_bytes r → BeginsWithHeader bytes (header_of r)
begins_with_header r bytes is e =
    let fits = header_fits r is in
    let plain = numbers_bytes r.1.refs ++ r.1.plain in
    let count = bytes_of 8 (length r.1.refs) ++ plain in
    let id = bytes_of 8 r.0 ++ count in
    let first = next_number bytes 0 (entity_size r.1) (bytes_of 8 r.1.type_id ++ id) (omega arith) (e ∙ in_fields r) fits.0 in
    let second = next_number bytes 8 r.1.type_id id first.2 first.1 fits.1.0 in
    let third = next_number bytes 16 r.0 count second.2 second.1 fits.1.1.0 in
    let fourth = next_number bytes 24 (length r.1.refs) plain third.2 third.1 fits.1.1.1.0 in
    record { length_is = first.0; type_id_is = second.0; id_is = third.0; count_is = fourth.0 }

pub spelled_is_long : (r : ℕ × Entity) (bytes : List ℕ) → bytes ≡ entity_bytes r → 32 ≤ length bytes
spelled_is_long r bytes e = omega (arith, ap length e, length-entity_bytes r)

-- what spells an entity has a right header
pub spelled_has_header : (r : ℕ × Entity) (bytes : List ℕ) (h : Header) → IsEntity r → bytes ≡ entity_bytes r → BeginsWithHeader bytes h → IsHeaderOf h (length bytes)
spelled_has_header r bytes h is e begins =
    let b = begins_with_header r bytes is e in
    let size : h.length ≡ entity_size r.1 = some_same h.length (entity_size r.1) (number_at 8 bytes 0) (number_at 8 bytes 0) begins.length_is b.length_is refl in
    let type_id : h.type_id ≡ r.1.type_id = some_same h.type_id r.1.type_id (number_at 8 bytes 8) (number_at 8 bytes 8) begins.type_id_is b.type_id_is refl in
    let id : h.id ≡ r.0 = some_same h.id r.0 (number_at 8 bytes 16) (number_at 8 bytes 16) begins.id_is b.id_is refl in
    let count : h.count ≡ length r.1.refs = some_same h.count (length r.1.refs) (number_at 8 bytes 24) (number_at 8 bytes 24) begins.count_is b.count_is refl in
    let len : length bytes ≡ entity_size r.1 = ap length e ∙ length-entity_bytes r in
    (omega arith, omega (arith, is.size), omega (arith, is.type_id), omega (arith, is.id), omega arith)

-- a right header, as many references and the bytes behind them are an entity
pub entity_read : (bytes refs plain : List ℕ) (h : Header) → IsBytes bytes → IsBytes plain → BeginsWithHeader bytes h → 32 ≤ length bytes → IsHeaderOf h (length bytes)
    → drop 32 bytes ≡ numbers_bytes refs ++ plain → length refs ≡ h.count → AllByRecursion FitsNumber refs
    → IsEntity (entity_from h.id h.type_id refs plain) × (bytes ≡ entity_bytes (entity_from h.id h.type_id refs plain))
entity_read bytes refs plain h fits plain_fits begins long is behind count refs_fit =
    let r = entity_from h.id h.type_id refs plain in
    let first = number_of_8 bytes h.length fits begins.length_is in
    let second = number_of_8 (drop 8 bytes) h.type_id (IsBytes-drop 8 bytes fits) (number_at-drop 8 bytes 8 (omega arith) ∙ begins.type_id_is) in
    let third = number_of_8 (drop 16 bytes) h.id (IsBytes-drop 16 bytes fits) (number_at-drop 8 bytes 16 (omega arith) ∙ begins.id_is) in
    let fourth = number_of_8 (drop 24 bytes) h.count (IsBytes-drop 24 bytes fits) (number_at-drop 8 bytes 24 (omega arith) ∙ begins.count_is) in
    let size : h.length ≡ entity_size r.1 = omega (arith, is, ap length behind, length-drop 32 bytes, length-append (numbers_bytes refs) plain, length-numbers_bytes refs) in
    let tail : drop 24 bytes ≡ bytes_of 8 (length refs) ++ (numbers_bytes refs ++ plain) =
    fourth.parts ∙ ap (λ (t : List ℕ). bytes_of 8 h.count ++ t) (drop-drop 8 24 bytes ∙ behind) ∙ ap (λ (n : ℕ). bytes_of 8 n ++ (numbers_bytes refs ++ plain)) (sym count) in
    let from_id : drop 16 bytes ≡ bytes_of 8 h.id ++ (bytes_of 8 (length refs) ++ (numbers_bytes refs ++ plain)) = third.parts ∙ ap (λ (t : List ℕ). bytes_of 8 h.id ++ t) (drop-drop 8 16 bytes ∙ tail) in
    let from_type : drop 8 bytes ≡ bytes_of 8 h.type_id ++ (bytes_of 8 h.id ++ (bytes_of 8 (length refs) ++ (numbers_bytes refs ++ plain))) =
    second.parts ∙ ap (λ (t : List ℕ). bytes_of 8 h.type_id ++ t) (drop-drop 8 8 bytes ∙ from_id) in
    let whole : bytes ≡ bytes_of 8 (entity_size r.1) ++ (bytes_of 8 h.type_id ++ (bytes_of 8 h.id ++ (bytes_of 8 (length refs) ++ (numbers_bytes refs ++ plain)))) =
    first.parts ∙ ap (λ (t : List ℕ). bytes_of 8 h.length ++ t) from_type
    ∙ ap (λ (n : ℕ). bytes_of 8 n ++ (bytes_of 8 h.type_id ++ (bytes_of 8 h.id ++ (bytes_of 8 (length refs) ++ (numbers_bytes refs ++ plain))))) size in (
      record {
        id = (is.3, third.small);
        type_id = (is.2, second.small);
        refs = refs_fit;
        plain = bytes_fit plain plain_fits;
        size = omega (arith, is);
      },
      whole ∙ sym (in_fields r),
    )

-- the same, where the bytes behind the header were split behind so many references
pub whole_read : (bytes front back refs plain : List ℕ) (h : Header) → IsBytes bytes → BeginsWithHeader bytes h → 32 ≤ length bytes → IsHeaderOf h (length bytes)
    → front ≡ take (8 * h.count) (drop 32 bytes) → back ≡ drop (8 * h.count) (drop 32 bytes) → front ≡ numbers_bytes refs → plain ≡ back → AllByRecursion FitsNumber refs
    → IsEntity (entity_from h.id h.type_id refs plain) × (bytes ≡ entity_bytes (entity_from h.id h.type_id refs plain))
whole_read bytes front back refs plain h fits begins long is front_is back_is spelled plain_is refs_fit =
    let n = 8 * h.count in
    let behind : drop 32 bytes ≡ numbers_bytes refs ++ plain =
    sym (take-append-drop n (drop 32 bytes)) ∙ ap (λ (t : List ℕ). t ++ drop n (drop 32 bytes)) (sym front_is ∙ spelled) ∙ ap (λ (t : List ℕ). numbers_bytes refs ++ t) (sym back_is ∙ sym plain_is) in
    let count : length refs ≡ h.count =
    omega (arith, ap length spelled, length-numbers_bytes refs, ap length front_is, length-take n (drop 32 bytes), length-drop 32 bytes, is.4) in
    let plain_fits : IsBytes plain = subst IsBytes (sym (plain_is ∙ back_is)) (IsBytes-drop n (drop 32 bytes) (IsBytes-drop 32 bytes fits)) in
    entity_read bytes refs plain h fits plain_fits begins long is behind count refs_fit
