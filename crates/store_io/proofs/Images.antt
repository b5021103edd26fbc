-- The images of a file in memory before and after each call.
use Rattle.std.proofs.Common.{inl, inr, ◌≡◌, ℕ, zero, suc, ◌+◌, ◌≤◌, min, true, List, [], ◌∷◌, ◌++◌, length, take, drop, map, replicate, Option, Some, None, unwrap_or, refl, sym, ◌∙◌, ap, subst, arith, length-append, length-take, length-drop, nat_le}
use Rattle.std.proofs.lemmas.Bool.{cases_lt, and_parts, and_from, eq-eqb, eqb-true, leb-true, le-leb, false≢true}
use Rattle.std.proofs.lemmas.List.{drop_all, append-nil, take_all, length-map, length-replicate}
use lib.Seq.{paste}
use Rattle.store_io.specs.Disk.{Torn, CutShort, Holds}
use Rattle.store_io.specs.Image.{is_at, fits, is_image, opened, opened_from, closed}

pub fits-length : (c : List ℕ) (kept : List (Option ℕ)) → fits c kept ≡ true → length c ≤ length kept
fits-length [] kept fit = omega arith
fits-length (x ∷ c) [] fit = absurd (false≢true fit)
fits-length (x ∷ c) (k ∷ kept) fit = omega (arith, fits-length c kept (and_parts (is_at k x) (fits c kept) fit).1)

is_at-unwrap_or : (k : Option ℕ) (x : ℕ) → is_at k (unwrap_or k x) ≡ true
is_at-unwrap_or (Some b) x = eq-eqb b b refl
is_at-unwrap_or None x = refl

-- an old image that this new one is torn from
pub record TornFrom (at n : ℕ) (kept : List (Option ℕ)) (c : List ℕ) : Type 0 where
  pub old : List ℕ
  pub fit : fits old kept ≡ true
  pub torn : Torn at n old c
  pub size : length old ≡ min (length c) (length kept)

pub torn_from : (at n : ℕ) (kept : List (Option ℕ)) (c : List ℕ) → at ≤ length kept → fits c (opened kept at n) ≡ true → TornFrom at n kept c
torn_from zero zero kept c within fit = record {
  old = c;
  fit = fit;
  torn = record { before = refl; after = refl; no_shorter = omega arith; no_longer = omega arith };
  size = omega (arith, fits-length c kept fit);
}
torn_from zero (suc n) kept [] within fit = record {
  old = [];
  fit = refl;
  torn = record { before = refl; after = refl; no_shorter = omega arith; no_longer = omega arith };
  size = omega arith;
}
torn_from zero (suc n) [] (x ∷ c) within fit =
    let none : Option ℕ = None in
    let nothing : List (Option ℕ) = [] in
    let size : length (replicate n none ++ nothing) ≡ n = omega (arith, length-append (replicate n none) nothing, length-replicate n none) in
    let short : length c ≤ n = omega (arith, fits-length c _ fit, size) in
    record {
      old = [];
      fit = refl;
      torn = record { before = refl; after = drop_all n c short; no_shorter = omega arith; no_longer = omega arith };
      size = omega arith;
    }
torn_from zero (suc n) (k ∷ kept) (x ∷ c) within fit =
    let rest = torn_from zero n kept c (omega arith) fit in
    record {
      old = unwrap_or k x ∷ rest.old;
      fit = and_from (is_at k (unwrap_or k x)) (fits rest.old kept) (is_at-unwrap_or k x) rest.fit;
      torn = record { before = refl; after = rest.torn.after; no_shorter = omega (arith, rest.torn.no_shorter); no_longer = omega (arith, rest.torn.no_longer) };
      size = omega (arith, rest.size);
    }
torn_from (suc at) n [] c within fit = absurd (omega arith)
torn_from (suc at) n (k ∷ kept) [] within fit = record {
  old = [];
  fit = refl;
  torn = record { before = refl; after = refl; no_shorter = omega arith; no_longer = omega arith };
  size = omega arith;
}
torn_from (suc at) n (k ∷ kept) (x ∷ c) within fit =
    let parts = and_parts (is_at k x) (fits c (opened kept at n)) fit in
    let rest = torn_from at n kept c (omega arith) parts.1 in
    record {
      old = x ∷ rest.old;
      fit = and_from (is_at k x) (fits rest.old kept) parts.0 rest.fit;
      torn = record {
        before = ap (λ (l : List ℕ). x ∷ l) rest.torn.before;
        after = rest.torn.after;
        no_shorter = omega (arith, rest.torn.no_shorter);
        no_longer = omega (arith, rest.torn.no_longer);
      };
      size = omega (arith, rest.size);
    }

-- an old image that this new one is cut from
pub record CutFrom (n : ℕ) (kept : List (Option ℕ)) (c : List ℕ) : Type 0 where
  pub old : List ℕ
  pub fit : fits old kept ≡ true
  pub cut : CutShort n old c
  pub size : n ≤ length c → length old ≡ length kept

filled : List (Option ℕ) → List ℕ
filled kept = map (λ k. unwrap_or k 0) kept

fits-filled : (kept : List (Option ℕ)) → fits (filled kept) kept ≡ true
unfolding filled
fits-filled [] = refl
fits-filled (k ∷ kept) = and_from (is_at k (unwrap_or k 0)) (fits (map (λ k. unwrap_or k 0) kept) kept) (is_at-unwrap_or k 0) (fits-filled kept)

length-filled : (kept : List (Option ℕ)) → length (filled kept) ≡ length kept
unfolding filled
length-filled kept = length-map kept (λ k. unwrap_or k 0)

length-nones : (kept : List (Option ℕ)) → length (map (λ (k : Option ℕ). (let none : Option ℕ = None in none)) kept) ≡ length kept
length-nones [] = refl
length-nones (k ∷ kept) = omega (arith, length-nones kept)

pub cut_from : (n : ℕ) (kept : List (Option ℕ)) (c : List ℕ) → fits c (opened_from kept n) ≡ true → CutFrom n kept c
cut_from zero kept c fit = record {
  old = filled kept;
  fit = fits-filled kept;
  cut = record { front = refl; no_longer = omega (arith, fits-length c _ fit, length-nones kept, length-filled kept); no_shorter = omega arith };
  size = λ _. length-filled kept;
}
cut_from (suc n) kept [] fit = record {
  old = [];
  fit = refl;
  cut = record { front = refl; no_longer = omega arith; no_shorter = omega arith };
  size = λ le. absurd (omega arith);
}
cut_from (suc n) [] (x ∷ c) fit = absurd (false≢true fit)
cut_from (suc n) (k ∷ kept) (x ∷ c) fit =
    let parts = and_parts (is_at k x) (fits c (opened_from kept n)) fit in
    let rest = cut_from n kept c parts.1 in
    record {
      old = x ∷ rest.old;
      fit = and_from (is_at k x) (fits rest.old kept) parts.0 rest.fit;
      cut = record { front = ap (λ (l : List ℕ). x ∷ l) rest.cut.front; no_longer = omega (arith, rest.cut.no_longer); no_shorter = omega (arith, rest.cut.no_shorter) };
      size = λ le. let here : length rest.old ≡ length kept = rest.size (omega arith) in omega arith;
    }

-- to open places leaves each image
pub fits-opened : (c : List ℕ) (kept : List (Option ℕ)) (at n : ℕ) → at ≤ length kept → fits c kept ≡ true → fits c (opened kept at n) ≡ true
fits-opened [] kept at n within fit = refl
fits-opened (x ∷ c) [] at n within fit = absurd (false≢true fit)
fits-opened (x ∷ c) (k ∷ kept) zero zero within fit = fit
fits-opened (x ∷ c) (k ∷ kept) zero (suc n) within fit = fits-opened c kept zero n (omega arith) (and_parts (is_at k x) (fits c kept) fit).1
fits-opened (x ∷ c) (k ∷ kept) (suc at) n within fit =
    let parts = and_parts (is_at k x) (fits c kept) fit in
    and_from (is_at k x) (fits c (opened kept at n)) parts.0 (fits-opened c kept at n (omega arith) parts.1)

pub fits-opened_from : (c : List ℕ) (kept : List (Option ℕ)) (n : ℕ) → fits c kept ≡ true → fits c (opened_from kept n) ≡ true
fits-opened_from [] kept n fit = refl
fits-opened_from (x ∷ c) [] n fit = absurd (false≢true fit)
fits-opened_from (x ∷ c) (k ∷ kept) zero fit = fits-opened_from c kept zero (and_parts (is_at k x) (fits c kept) fit).1
fits-opened_from (x ∷ c) (k ∷ kept) (suc n) fit =
    let parts = and_parts (is_at k x) (fits c kept) fit in
    and_from (is_at k x) (fits c (opened_from kept n)) parts.0 (fits-opened_from c kept n parts.1)

-- any bytes stand in open places
fits-none : (c : List ℕ) (n : ℕ) (kept : List (Option ℕ)) → length c ≤ n → fits c (replicate n None ++ kept) ≡ true
fits-none [] n kept le = refl
fits-none (x ∷ c) zero kept le = absurd (omega arith)
fits-none (x ∷ c) (suc n) kept le = fits-none c n kept (omega arith)

-- what is written stands in open places
pub fits-written : (c bytes : List ℕ) (kept : List (Option ℕ)) (at : ℕ) → at ≤ length c → fits c kept ≡ true
    → fits (take at c ++ (bytes ++ drop (length bytes) (drop at c))) (opened kept at (length bytes)) ≡ true
fits-written c [] kept zero within fit = fit
fits-written [] (b ∷ bytes) kept zero within fit =
    let none : List ℕ = [] in
    let nothing : drop (length (b ∷ bytes)) none ≡ [] = drop_all (length (b ∷ bytes)) none (omega arith) in
    subst (λ (l : List ℕ). fits (b ∷ bytes ++ l) (opened kept zero (length (b ∷ bytes))) ≡ true) (sym nothing)
    (subst (λ (l : List ℕ). fits l (opened kept zero (length (b ∷ bytes))) ≡ true) (sym (append-nil (b ∷ bytes))) (fits-none (b ∷ bytes) (length (b ∷ bytes)) (drop (length (b ∷ bytes)) kept) (omega arith)))
fits-written (x ∷ c) (b ∷ bytes) [] zero within fit = absurd (false≢true fit)
fits-written (x ∷ c) (b ∷ bytes) (k ∷ kept) zero within fit = fits-written c bytes kept zero (omega arith) (and_parts (is_at k x) (fits c kept) fit).1
fits-written [] bytes kept (suc at) within fit = absurd (omega arith)
fits-written (x ∷ c) bytes [] (suc at) within fit = absurd (false≢true fit)
fits-written (x ∷ c) bytes (k ∷ kept) (suc at) within fit =
    let parts = and_parts (is_at k x) (fits c kept) fit in
    and_from (is_at k x) _ parts.0 (fits-written c bytes kept at (omega arith) parts.1)

pub fits-take : (c : List ℕ) (kept : List (Option ℕ)) (n : ℕ) → fits c kept ≡ true → fits (take n c) kept ≡ true
fits-take c kept zero fit = refl
fits-take [] kept (suc n) fit = refl
fits-take (x ∷ c) [] (suc n) fit = absurd (false≢true fit)
fits-take (x ∷ c) (k ∷ kept) (suc n) fit =
    let parts = and_parts (is_at k x) (fits c kept) fit in
    and_from (is_at k x) (fits (take n c) kept) parts.0 (fits-take c kept n parts.1)

-- after a sync there is one image
pub fits-closed : (c bytes : List ℕ) → fits c (closed bytes) ≡ true → length bytes ≤ length c → c ≡ bytes
fits-closed [] [] fit long = refl
fits-closed [] (b ∷ bytes) fit long = absurd (omega arith)
fits-closed (x ∷ c) [] fit long = absurd (false≢true fit)
fits-closed (x ∷ c) (b ∷ bytes) fit long =
    let parts = and_parts (is_at (Some b) x) (fits c (closed bytes)) fit in
    let same : b ≡ x = eqb-true b x parts.0 in
    λ i. sym same i ∷ fits-closed c bytes parts.1 (omega arith) i

pub closed-fits : (bytes : List ℕ) → fits bytes (closed bytes) ≡ true
closed-fits [] = refl
closed-fits (b ∷ bytes) = and_from (is_at (Some b) b) (fits bytes (closed bytes)) (eq-eqb b b refl) (closed-fits bytes)

image_parts : (least : ℕ) (kept : List (Option ℕ)) (c : List ℕ) → is_image least kept c ≡ true → (least ≤ length c) × (fits c kept ≡ true)
image_parts least kept c is =
    let parts = and_parts (nat_le least (length c)) (fits c kept) is in
    (leb-true least (length c) parts.0, parts.1)

image : (least : ℕ) (kept : List (Option ℕ)) (c : List ℕ) → least ≤ length c → fits c kept ≡ true → is_image least kept c ≡ true
image least kept c long fit = and_from (nat_le least (length c)) (fits c kept) (le-leb least (length c) long) fit

-- an image is no longer than the places
pub image-length : (least : ℕ) (kept : List (Option ℕ)) (c : List ℕ) → is_image least kept c ≡ true → (least ≤ length c) × (length c ≤ length kept)
image-length least kept c is =
    let parts = image_parts least kept c is in
    (parts.0, fits-length c kept parts.1)

pub image-written : (least at : ℕ) (kept kept' : List (Option ℕ)) (c bytes c' : List ℕ) → is_image least kept c ≡ true → at ≤ length c
    → Holds c at bytes c' → kept' ≡ opened kept at (length bytes) → is_image least kept' c' ≡ true
image-written least at kept kept' c bytes c' is within written open_now =
    let parts = image_parts least kept c is in
    let long : length c ≤ length (take at c ++ (bytes ++ drop (length bytes) (drop at c))) =
    omega (arith, length-append (take at c) (bytes ++ drop (length bytes) (drop at c)), length-append bytes (drop (length bytes) (drop at c)), length-take at c, length-drop (length bytes) (drop at c), length-drop at c) in
    subst (λ (k : List (Option ℕ)). is_image least k c' ≡ true) (sym open_now)
    (subst (λ (l : List ℕ). is_image least (opened kept at (length bytes)) l ≡ true) (sym written)
    (image least (opened kept at (length bytes)) (take at c ++ (bytes ++ drop (length bytes) (drop at c))) (omega (arith, parts.0, long)) (fits-written c bytes kept at within parts.1)))

pub image-opened : (least at n : ℕ) (kept kept' : List (Option ℕ)) (c : List ℕ) → is_image least kept c ≡ true → at ≤ length kept → kept' ≡ opened kept at n → is_image least kept' c ≡ true
image-opened least at n kept kept' c is within open_now =
    let parts = image_parts least kept c is in
    subst (λ (k : List (Option ℕ)). is_image least k c ≡ true) (sym open_now) (image least (opened kept at n) c parts.0 (fits-opened c kept at n within parts.1))

pub image-cut : (least n : ℕ) (kept kept' : List (Option ℕ)) (c c' : List ℕ) → is_image least kept c ≡ true → n ≤ length c
    → c' ≡ take n c → kept' ≡ opened_from kept n → is_image (min least n) kept' c' ≡ true
image-cut least n kept kept' c c' is within cut open_now =
    let parts = image_parts least kept c is in
    subst (λ (k : List (Option ℕ)). is_image (min least n) k c' ≡ true) (sym open_now)
    (subst (λ (l : List ℕ). is_image (min least n) (opened_from kept n) l ≡ true) (sym cut)
    (image (min least n) (opened_from kept n) (take n c) (omega (arith, length-take n c)) (fits-opened_from (take n c) kept n (fits-take c kept n parts.1))))

pub image-opened_from : (least n : ℕ) (kept kept' : List (Option ℕ)) (c : List ℕ) → is_image least kept c ≡ true → kept' ≡ opened_from kept n → is_image (min least n) kept' c ≡ true
image-opened_from least n kept kept' c is open_now =
    let parts = image_parts least kept c is in
    subst (λ (k : List (Option ℕ)). is_image (min least n) k c ≡ true) (sym open_now)
    (image (min least n) (opened_from kept n) c (omega (arith, parts.0)) (fits-opened_from c kept n parts.1))

pub image-closed : (least : ℕ) (kept : List (Option ℕ)) (bytes c : List ℕ) → least ≡ length bytes → kept ≡ closed bytes → c ≡ bytes → is_image least kept c ≡ true
image-closed least kept bytes c is_long is_closed same =
    subst (λ (k : List (Option ℕ)). is_image least k c ≡ true) (sym is_closed)
    (subst (λ (l : List ℕ). is_image least (closed bytes) l ≡ true) (sym same) (image least (closed bytes) bytes (omega arith) (closed-fits bytes)))

-- what a stop leaves of a write is torn from what it left before
pub stop-written : (least at n : ℕ) (kept kept' : List (Option ℕ)) (c : List ℕ) → at ≤ length kept → least ≤ length kept
    → kept' ≡ opened kept at n → is_image least kept' c ≡ true → (d : List ℕ) × (is_image least kept d ≡ true) × Torn at n d c
stop-written least at n kept kept' c within long open_now is =
    let parts = image_parts least (opened kept at n) c (subst (λ (k : List (Option ℕ)). is_image least k c ≡ true) open_now is) in
    let from = torn_from at n kept c within parts.1 in
    (from.old, image least kept from.old (omega (arith, from.size, parts.0)) from.fit, from.torn)

pub stop-cut : (least n : ℕ) (kept kept' : List (Option ℕ)) (c : List ℕ) → least ≤ length kept
    → kept' ≡ opened_from kept n → is_image (min least n) kept' c ≡ true → (d : List ℕ) × (is_image least kept d ≡ true) × CutShort n d c
stop-cut least n kept kept' c long open_now is =
    let parts = image_parts (min least n) (opened_from kept n) c (subst (λ (k : List (Option ℕ)). is_image (min least n) k c ≡ true) open_now is) in
    let from = cut_from n kept c parts.1 in
    (from.old, image least kept from.old (grown from.size from.cut.no_longer parts.0) from.fit, from.cut)
  where
    grown : {old : ℕ} → (n ≤ length c → old ≡ length kept) → length c ≤ old → min least n ≤ length c → least ≤ old
    grown size longer enough = elim (cases_lt (length c) n) [ inl short ↦ omega arith | inr far ↦ omega (arith, size far) ]

pub stop-synced : (least : ℕ) (kept : List (Option ℕ)) (bytes c : List ℕ) → least ≡ length bytes → kept ≡ closed bytes → is_image least kept c ≡ true → c ≡ bytes
stop-synced least kept bytes c is_long is_closed is =
    let parts = image_parts least (closed bytes) c (subst (λ (k : List (Option ℕ)). is_image least k c ≡ true) is_closed is) in
    fits-closed c bytes parts.1 (omega (arith, parts.0))

-- the rest of the places, all open
nones : (kept : List (Option ℕ)) → replicate {A = Option ℕ} (length kept) None ≡ map (λ _. None) kept
nones [] = refl
nones (k ∷ kept) = ap (λ (l : List (Option ℕ)). None ∷ l) (nones kept)

pub opened_rest : (n m : ℕ) (kept : List (Option ℕ)) → n + m ≡ length kept → paste kept n (replicate m None) m ≡ opened_from kept n
opened_rest n m kept is =
    let none : Option ℕ = None in
    let all : List (Option ℕ) = replicate m none in
    let size : m ≡ length (drop n kept) = omega (arith, length-drop n kept) in
    ap (λ (l : List (Option ℕ)). take n kept ++ take m all ++ l) (drop_all (n + m) kept (omega arith))
    ∙ append-nil (take n kept ++ take m all)
    ∙ ap (λ (l : List (Option ℕ)). take n kept ++ l) (take_all m all (omega (arith, length-replicate m none)) ∙ ap (λ (k : ℕ). replicate k none) size ∙ nones (drop n kept))
