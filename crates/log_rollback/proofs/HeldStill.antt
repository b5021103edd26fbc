-- What the disks hold whatever a stop leaves they hold still, once a file of one of them was added to.
use Rattle.std.proofs.Common.{◌≡◌, ◌≢◌, ℕ, ◌≤◌, ◌<◌, ◌==◌, Bool, true, false, IsTrue, if◌then◌else◌, List, [], length, set, get_or, map, refl, sym, ap, ◌∙◌, subst, arith, inl, inr, length-set}
use Rattle.std.proofs.lemmas.Bool.{cases_eq, cond-false, cond-true, eq-eqb, ne_eqb}
use Rattle.std.proofs.lemmas.List.{get_or-set_other, get_or-set_same, length-map}
use Rattle.store_io.specs.Disk.{OthersStay}
use Rattle.store_io.specs.Whole.{IsImage}
use Rattle.gated_log.specs.Log.{Each, payloads_of}
use Rattle.transactions_file.specs.Files.{is_live}
use Rattle.transactions_file.specs.Inventory.{State}
use Rattle.channel_files.proofs.Within.{all_fit, two_up}
use Rattle.channel.specs.Images.{HasLog, Image, IsLogFile, log_header, state_of}
use Rattle.recovery.specs.Images.{image_at, types_header}
use Rattle.recovery.specs.Stored.{IsStored, Stored}
use Rattle.disk_opening.proofs.DiskLists.{told_at}
use Rattle.store_opening.specs.Left.{LeaveNoMore, Leaves, leaves_at}
use Rattle.store_opening.specs.TakenBack.{AreAfter, IsAfter, IsTakenBack}
use Rattle.store_opening.proofs.SyncedDisks.{told_there}
use Rattle.log_rollback.specs.Finished.{HasSamePayloads}
use Rattle.log_rollback.specs.Held.{Hold, MayLeave}
use Rattle.log_rollback.proofs.OneDisk.{told_same, elsewhere}

abbrev no_image : Image
no_image = λ (file : ℕ). []

abbrev nothing : Leaves
nothing = λ (file : ℕ) (bytes : List ℕ). false

-- the image with other bytes in a file
abbrev with_file : ℕ → List ℕ → Image → Image
with_file file bytes image = λ (f : ℕ). if f == file then bytes else image f

there : (file : ℕ) (bytes : List ℕ) (image : Image) → with_file file bytes image file ≡ bytes
there file bytes image = cond-true (file == file) bytes (image file) (eq-eqb file file refl)

apart : (file f : ℕ) (bytes : List ℕ) (image : Image) → f ≢ file → with_file file bytes image f ≡ image f
apart file f bytes image ne = cond-false (f == file) bytes (image f) (ne_eqb f file ne)

-- BEFORE THE CALL

module _ {A : Type 0} (leaves : A → Leaves) (xs : List A) (j : ℕ) (x y : A) (within : j < length xs) (file : ℕ) (bytes : List ℕ) (was : IsTrue (leaves (get_or xs j x) file bytes))
    (others : (f : ℕ) → f ≢ file → leaves y f ≡ leaves (get_or xs j x) f) (images : List Image) (may : MayLeave (map leaves (set xs j y)) images) where
  abbrev pub images_before : List Image
  images_before = set images j (with_file file bytes (image_at images j))

  pub many_images : length images ≡ length xs
  many_images = may.many ∙ length-map (set xs j y) leaves ∙ length-set xs j y

  one_before : (f : ℕ) → IsTrue (leaves (get_or xs j x) f (with_file file bytes (image_at images j) f))
  one_before f = elim (cases_eq f file) [
    | inl e ↦ subst (λ (k : ℕ). IsTrue (leaves (get_or xs j x) k (with_file file bytes (image_at images j) k))) (sym e)
        (subst (λ (b : List ℕ). IsTrue (leaves (get_or xs j x) file b)) (sym (there file bytes (image_at images j))) was)
    | inr ne ↦ subst (λ (b : List ℕ). IsTrue (leaves (get_or xs j x) f b)) (sym (apart file f bytes (image_at images j) ne))
        (subst (λ (l : List ℕ → Bool). IsTrue (l (image_at images j f))) (others f ne)
        (subst (λ (l : Leaves). IsTrue (l f (image_at images j f))) (told_there leaves xs j y nothing within)
        (may.each j (omega (arith, length-map (set xs j y) leaves, length-set xs j y)) f)))
  ]

  pub here_before : image_at images_before j ≡ with_file file bytes (image_at images j)
  here_before = get_or-set_same images j (with_file file bytes (image_at images j)) no_image (omega (arith, many_images))

  pub elsewhere_before : (i : ℕ) → i ≢ j → image_at images_before i ≡ image_at images i
  elsewhere_before i ne = get_or-set_other images j i (with_file file bytes (image_at images j)) no_image ne

  each_before : (i : ℕ) → i < length (map leaves xs) → IsImage (leaves_at (map leaves xs) i) (image_at images_before i)
  each_before i lt = elim (cases_eq i j) [
    | inl e ↦ subst (λ (k : ℕ). IsImage (leaves_at (map leaves xs) k) (image_at images_before k)) (sym e)
        (subst (λ (l : Leaves). IsImage l (image_at images_before j)) (sym (told_at leaves xs j x nothing within))
        (subst (IsImage (leaves (get_or xs j x))) (sym here_before) one_before))
    | inr ne ↦ subst (IsImage (leaves_at (map leaves xs) i)) (sym (elsewhere_before i ne))
        (subst (λ (l : Leaves). IsImage l (image_at images i)) (told_same leaves (set xs j y) xs i nothing (elsewhere xs j i y ne))
        (may.each i (omega (arith, lt, length-map xs leaves, length-map (set xs j y) leaves, length-set xs j y))))
  ]

  pub may_before : MayLeave (map leaves xs) images_before
  may_before = record { many = length-set images j (with_file file bytes (image_at images j)) ∙ many_images ∙ sym (length-map xs leaves); each = each_before }

-- BEHIND IT

-- a live file is none of the logs
live_apart : (n j : ℕ) (image : Image) → HasLog n j image → (f : ℕ) → is_live (state_of image).files f ≡ true → 2 ≤ f
live_apart n j image has f live = two_up (state_of image) (all_fit (payloads_of (image 0)) (state_of image) has.allowed).sound f live

untouched : (n j m : ℕ) (image : Image) → HasLog n j image → IsAfter n j m image image
untouched n j m image has = record { log = record { is_log = has.file; same = inl refl }; files = λ f live. refl }

-- of one disk the transactions log
module _ (m j : ℕ) (images : List Image) (bytes : List ℕ) (what : Stored) (within : j < length images) where
  abbrev before : List Image
  before = set images j (with_file 0 bytes (image_at images j))

  here : image_at before j ≡ with_file 0 bytes (image_at images j)
  here = get_or-set_same images j (with_file 0 bytes (image_at images j)) no_image within

  away : (i : ℕ) → i ≢ j → image_at before i ≡ image_at images i
  away i ne = get_or-set_other images j i (with_file 0 bytes (image_at images j)) no_image ne

  many : length before ≡ length images
  many = length-set images j (with_file 0 bytes (image_at images j))

  module _ (is : IsStored before what) (taken : IsTakenBack (log_header (length images) j) m (state_of (with_file 0 bytes (image_at images j))) (payloads_of bytes) (image_at images j 0)) where
    after_here : IsAfter (length before) j m (image_at before j) (image_at images j)
    after_here =
        let has : HasLog (length before) j (with_file 0 bytes (image_at images j)) = subst (HasLog (length before) j) here (is.logs j (omega (arith, many))) in
        subst (λ (i : Image). IsAfter (length before) j m i (image_at images j)) (sym here) record {
          log = subst (λ (k : ℕ). IsTakenBack (log_header k j) m (state_of (with_file 0 bytes (image_at images j))) (payloads_of bytes) (image_at images j 0)) (sym many) taken;
          files = λ f live. let up = live_apart (length before) j (with_file 0 bytes (image_at images j)) has f live in sym (apart 0 f bytes (image_at images j) (λ e. absurd (omega arith)));
        }

    after_each : (i : ℕ) → i < length before → IsAfter (length before) i m (image_at before i) (image_at images i)
    after_each i lt = elim (cases_eq i j) [
      | inl e ↦ subst (λ (k : ℕ). IsAfter (length before) k m (image_at before k) (image_at images k)) (sym e) after_here
      | inr ne ↦ subst (IsAfter (length before) i m (image_at before i)) (away i ne) (untouched (length before) i m (image_at before i) (is.logs i lt))
    ]

    same_types : image_at images 0 1 ≡ image_at before 0 1
    same_types = elim (cases_eq 0 j) [
      | inl e ↦ ap (λ (k : ℕ). image_at images k 1) e ∙ sym (apart 0 1 bytes (image_at images j) (λ z. absurd cc)) ∙ sym (ap (λ (i : Image). i 1) here) ∙ sym (ap (λ (k : ℕ). image_at before k 1) e)
      | inr ne ↦ sym (ap (λ (i : Image). i 1) (away 0 ne))
    ]

    pub are_after_log : AreAfter m before images
    are_after_log = record {
      many = sym many;
      each = after_each;
      types_file = subst (IsLogFile (types_header (length before))) (sym same_types) is.types.file;
      types = ap payloads_of same_types;
    }

-- of disk 0 the dictionary log
module _ (m : ℕ) (images : List Image) (bytes : List ℕ) (what : Stored) (within : 0 < length images) where
  abbrev first : List Image
  first = set images 0 (with_file 1 bytes (image_at images 0))

  at_first : image_at first 0 ≡ with_file 1 bytes (image_at images 0)
  at_first = get_or-set_same images 0 (with_file 1 bytes (image_at images 0)) no_image within

  many_first : length first ≡ length images
  many_first = length-set images 0 (with_file 1 bytes (image_at images 0))

  module _ (is : IsStored first what) (file : IsLogFile (types_header (length images)) (image_at images 0 1)) (same : payloads_of (image_at images 0 1) ≡ payloads_of bytes) where
    first_after : IsAfter (length first) 0 m (image_at first 0) (image_at images 0)
    first_after =
        let has = subst (HasLog (length first) 0) at_first (is.logs 0 (omega (arith, many_first))) in
        subst (λ (i : Image). IsAfter (length first) 0 m i (image_at images 0)) (sym at_first) record {
          log = record { is_log = has.file; same = inl refl };
          files = λ f live. let up = live_apart (length first) 0 (with_file 1 bytes (image_at images 0)) has f live in sym (apart 1 f bytes (image_at images 0) (λ e. absurd (omega arith)));
        }

    each_after : (i : ℕ) → i < length first → IsAfter (length first) i m (image_at first i) (image_at images i)
    each_after i lt = elim (cases_eq i 0) [
      | inl e ↦ subst (λ (k : ℕ). IsAfter (length first) k m (image_at first k) (image_at images k)) (sym e) first_after
      | inr ne ↦ subst (IsAfter (length first) i m (image_at first i)) (get_or-set_other images 0 i (with_file 1 bytes (image_at images 0)) no_image ne)
          (untouched (length first) i m (image_at first i) (is.logs i lt))
    ]

    pub are_after_types : AreAfter m first images
    are_after_types = record {
      many = sym many_first;
      each = each_after;
      types_file = subst (λ (k : ℕ). IsLogFile (types_header k) (image_at images 0 1)) (sym many_first) file;
      types = same ∙ sym (ap payloads_of (ap (λ (i : Image). i 1) at_first));
    }

-- HELD STILL

pub held_of_less : (old new : List Leaves) (what : Stored) → LeaveNoMore old new → Hold old what → Hold new what
held_of_less old new what less hold images may = hold images record {
  many = may.many ∙ less.many;
  each = λ j lt file. less.each j file (image_at images j file) (may.each j (omega (arith, lt, less.many)) file);
}

abbrev pub KeepsHeld : Type 0
KeepsHeld = (old new : List Image) (what : Stored) → IsStored old what → AreAfter what.number old new → IsStored new what

module _ (law : KeepsHeld) {A : Type 0} (reads : A → Image) (leaves : A → Leaves) (xs : List A) (j : ℕ) (x y : A) (within : j < length xs) where
  pub held_with_log : (m : ℕ) (s : State) → s ≡ state_of (reads (get_or xs j x)) → IsTrue (leaves (get_or xs j x) 0 (reads (get_or xs j x) 0))
      → OthersStay 0 (reads (get_or xs j x)) (reads y) (leaves (get_or xs j x)) (leaves y)
      → Each (leaves y 0) (IsTakenBack (log_header (length xs) j) m s (payloads_of (reads (get_or xs j x) 0)))
      → (what : Stored) → what.number ≡ m → Hold (map leaves xs) what → Hold (map leaves (set xs j y)) what
  held_with_log m s state was others taken what number hold images may =
      let bytes = reads (get_or xs j x) 0 in
      let all = many_images leaves xs j x y within 0 bytes was others.leaves images may in
      let old = hold (images_before leaves xs j x y within 0 bytes was others.leaves images may) (may_before leaves xs j x y within 0 bytes was others.leaves images may) in
      let left : IsTrue (leaves y 0 (image_at images j 0)) = subst (λ (l : Leaves). IsTrue (l 0 (image_at images j 0))) (told_there leaves xs j y nothing within)
      (may.each j (omega (arith, length-map (set xs j y) leaves, length-set xs j y)) 0) in
      let here = subst (λ (q : State). IsTakenBack (log_header (length xs) j) m q (payloads_of bytes) (image_at images j 0)) state (taken (image_at images j 0) left) in
      let there = subst (λ (k : ℕ). IsTakenBack (log_header k j) m (state_of (reads (get_or xs j x))) (payloads_of bytes) (image_at images j 0)) (sym all) here in
      law (images_before leaves xs j x y within 0 bytes was others.leaves images may) images what old
      (subst (λ (k : ℕ). AreAfter k (images_before leaves xs j x y within 0 bytes was others.leaves images may) images) (sym number)
      (are_after_log m j images bytes what (omega (arith, all)) old there))

-- of the first disk the dictionary log
module _ (law : KeepsHeld) {A : Type 0} (reads : A → Image) (leaves : A → Leaves) (xs : List A) (x y : A) (within : 0 < length xs) where
  pub held_with_types : IsTrue (leaves (get_or xs 0 x) 1 (reads (get_or xs 0 x) 1)) → OthersStay 1 (reads (get_or xs 0 x)) (reads y) (leaves (get_or xs 0 x)) (leaves y)
      → Each (leaves y 1) (HasSamePayloads (types_header (length xs)) (reads (get_or xs 0 x) 1))
      → (what : Stored) → Hold (map leaves xs) what → Hold (map leaves (set xs 0 y)) what
  held_with_types was others left what hold images may =
      let bytes = reads (get_or xs 0 x) 1 in
      let all = many_images leaves xs 0 x y within 1 bytes was others.leaves images may in
      let old = hold (images_before leaves xs 0 x y within 1 bytes was others.leaves images may) (may_before leaves xs 0 x y within 1 bytes was others.leaves images may) in
      let here = left (image_at images 0 1) (subst (λ (l : Leaves). IsTrue (l 1 (image_at images 0 1))) (told_there leaves xs 0 y nothing within)
      (may.each 0 (omega (arith, length-map (set xs 0 y) leaves, length-set xs 0 y)) 1)) in
      law (images_before leaves xs 0 x y within 1 bytes was others.leaves images may) images what old
      (are_after_types what.number images bytes what (omega (arith, all)) old (subst (λ (k : ℕ). IsLogFile (types_header k) (image_at images 0 1)) (sym all) here.is_log) here.same)
