-- What a cache and its region are once an id has left, the region was packed, or one more content is kept.
use Rattle.std.proofs.Common.{◌≡◌, ◌≢◌, ℕ, ◌+◌, ◌-◌, ◌<◌, ◌≤◌, true, false, cond, List, [], ◌∷◌, length, set, take, Option, Some, None, refl, sym, ap, subst, ◌∙◌, arith, inl, inr, length-set}
use Rattle.std.specs.Prelude.{is_some}
use Rattle.std.specs.List.{sum_by}
use Rattle.std.specs.Option.{option_map, option_and_then}
use Rattle.std.proofs.lemmas.Bool.{cases_lt, cases_eq}
use Rattle.std.proofs.lemmas.List.{get_or-set_same, get_or-set_other, get_or_past, take_all, take-take}
use Rattle.std.proofs.lemmas.List.Sums.{sum_by-set}
use Rattle.entity_region.specs.Space.{Space, Placed, most, live, block_at, bytes_at, bytes_of, with_block, size, free, AreWritten, HasNoHole, IsHole, IsLive, IsPacked, IsTaken}
use Rattle.entity_cache.specs.Contents.{OthersStay}
use Rattle.entity_cache.proofs.Lookups.{found_front, others_front}
use Rattle.entity_cache.specs.Cached.{block_of, content_of, IsForeign, IsHeld, ForeignStay, StaysOrLeaves, HaveLeft, LastUsedStay, IsOneHole}

-- ---- blocks of a region

some_is : {A : Type 0} (o : Option A) → is_some o ≡ true → (x : A) × (o ≡ Some x)
some_is None live = absurd cc
some_is (Some x) live = (x, refl)

-- a block is live exactly where it has bytes
live_by_bytes : (old new : Space) (n : ℕ) → bytes_at new n ≡ bytes_at old n → IsLive old n → IsLive new n
live_by_bytes old new n same lives = go (block_at new n) refl
  where
    go : (o : Option Placed) → block_at new n ≡ o → IsLive new n
    go (Some p) is = ap is_some is
    go None is =
        let p = some_is (block_at old n) lives in
        let was : bytes_at old n ≡ Some (bytes_of old.memory p.0) = ap (option_map (bytes_of old.memory)) p.1 in
        let now : bytes_at new n ≡ None = ap (option_map (bytes_of new.memory)) is in
        absurd cc

live_inside : (s : Space) (n : ℕ) → IsLive s n → n < most s
live_inside s n lives = elim (cases_lt n (most s)) [
  | inl below ↦ below
  | inr past ↦ let none : is_some (block_at s n) ≡ false = ap is_some (get_or_past s.blocks n None past) in absurd cc
]

ended_here : (s : Space) (n : ℕ) → block_at (with_block s n None) n ≡ None
ended_here s n = elim (cases_lt n (most s)) [
  | inl below ↦ get_or-set_same s.blocks n None None below
  | inr past ↦ get_or_past (set s.blocks n None) n None (let len : length (set s.blocks n None) ≡ length s.blocks = length-set s.blocks n None in omega arith)
]

block_other : (s : Space) (n m : ℕ) (o : Option Placed) → n ≢ m → block_at (with_block s n o) m ≡ block_at s m
block_other s n m o differs = get_or-set_other s.blocks n m o None (λ same. differs (sym same))

bytes_other : (s : Space) (n m : ℕ) (o : Option Placed) → n ≢ m → bytes_at (with_block s n o) m ≡ bytes_at s m
bytes_other s n m o differs = ap (option_map (bytes_of s.memory)) (block_other s n m o differs)

abbrev one : Option Placed → ℕ
one block = cond (is_some block) 1 0

ended_count : (s : Space) (n : ℕ) → IsLive s n → live (with_block s n None) + 1 ≡ live s
ended_count s n lives =
    let sum : sum_by one (set s.blocks n None) + one (block_at s n) ≡ sum_by one s.blocks + 0 = sum_by-set one s.blocks n None None (live_inside s n lives) in
    let was : one (block_at s n) ≡ 1 = ap (λ b. cond b 1 0) lives in
    let all : sum_by one (set s.blocks n None) + 1 ≡ sum_by one s.blocks = omega arith in
    all

-- ---- one id leaves, and its block ends

module _ (region : Space) (cache after : List (ℕ × ℕ)) (id number : ℕ) (held : IsHeld region cache) (is : block_of cache id ≡ Some number) (gone : block_of after id ≡ None)
    (others : OthersStay id cache after) (fewer : length after + 1 ≡ length cache) where
  not_its : (other n : ℕ) → other ≢ id → block_of cache other ≡ Some n → number ≢ n
  not_its other n differs other_is same = differs (held.distinct other id n other_is (subst (λ k. block_of cache id ≡ Some k) same is))

  differs_from : (other n : ℕ) → block_of after other ≡ Some n → other ≢ id
  differs_from other n other_is same = let none : block_of after other ≡ None = subst (λ k. block_of after k ≡ None) (sym same) gone in absurd cc

  was : (other n : ℕ) → block_of after other ≡ Some n → block_of cache other ≡ Some n
  was other n other_is = sym (others other (differs_from other n other_is)) ∙ other_is

  pub held_left : IsHeld (with_block region number None) after
  held_left = record {
    live = λ other n other_is.
        ap is_some (block_other region number n None (not_its other n (differs_from other n other_is) (was other n other_is)))
        ∙ held.live other n (was other n other_is);
    distinct = λ a b n a_is b_is. held.distinct a b n (was a n a_is) (was b n b_is);
  }

  pub content_left : (other : ℕ) → other ≢ id → content_of (with_block region number None) after other ≡ content_of region cache other
  content_left other differs = go (block_of cache other) refl
    where
      go : (o : Option ℕ) → block_of cache other ≡ o → content_of (with_block region number None) after other ≡ content_of region cache other
      go None none = ap (option_and_then (bytes_at (with_block region number None))) (others other differs ∙ none) ∙ sym (ap (option_and_then (bytes_at region)) none)
      go (Some n) some =
          ap (option_and_then (bytes_at (with_block region number None))) (others other differs ∙ some)
          ∙ bytes_other region number n None (not_its other n differs some)
          ∙ sym (ap (option_and_then (bytes_at region)) some)

  pub foreign_left : ForeignStay region cache (with_block region number None) after
  foreign_left = record {
    size_stays = refl;
    most_stays = length-set region.blocks number None;
    bytes_stay = λ n foreign lives. (λ other other_is. foreign other (was other n other_is), bytes_other region number n None (λ same. foreign id (subst (λ k. block_of cache id ≡ Some k) same is)));
    no_more = λ n foreign lives.
        let apart : number ≢ n = λ same.
        let ends : block_at (with_block region number None) n ≡ None = subst (λ k. block_at (with_block region number None) k ≡ None) same (ended_here region number) in
        let dead : is_some (block_at (with_block region number None) n) ≡ false = ap is_some ends in
        absurd cc in (
          λ other other_is. elim (cases_eq other id) [
            | inl same ↦ apart (let its : block_of cache id ≡ Some n = subst (λ k. block_of cache k ≡ Some n) same other_is in cc)
            | inr differs ↦ foreign other (others other differs ∙ other_is)
          ],
          sym (ap is_some (block_other region number n None apart)) ∙ lives,
        );
    count_stays = let less = ended_count region number (held.live id number is) in omega arith;
  }

  pub left_one : LastUsedStay cache after → HaveLeft region cache (with_block region number None) after
  left_one last = record {
    held = held_left;
    all = λ other. elim (cases_eq other id) [
      | inl same ↦ inr (ap (option_and_then (bytes_at (with_block region number None))) (subst (λ k. block_of after k ≡ None) (sym same) gone))
      | inr differs ↦ inl (content_left other differs)
    ];
    foreign = foreign_left;
    fewer = omega arith;
    last_used = last;
  }

pub some_entry : (cache : List (ℕ × ℕ)) (id number : ℕ) → block_of cache id ≡ Some number → 1 ≤ length cache
some_entry [] id number is = absurd cc
some_entry (e ∷ es) id number is = omega arith

pub no_entries : (cache : List (ℕ × ℕ)) → length cache ≡ 0 → cache ≡ []
no_entries [] none = refl
no_entries (e ∷ es) none = absurd (omega arith)

-- ---- nothing leaves

pub foreign_same : (region : Space) (cache : List (ℕ × ℕ)) → ForeignStay region cache region cache
foreign_same region cache = record {
  size_stays = refl;
  most_stays = refl;
  bytes_stay = λ n foreign lives. (foreign, refl);
  no_more = λ n foreign lives. (foreign, lives);
  count_stays = refl;
}

pub foreign_none : (region : Space) (cache after : List (ℕ × ℕ)) → after ≡ cache → ForeignStay region cache region after
foreign_none region cache after same = subst (ForeignStay region cache region) (sym same) (foreign_same region cache)

all_last : (cache : List (ℕ × ℕ)) → LastUsedStay cache cache
all_last cache = sym (take_all (length cache) cache (omega arith))

pub left_none : (region : Space) (cache : List (ℕ × ℕ)) → IsHeld region cache → HaveLeft region cache region cache
left_none region cache held = record { held = held; all = λ id. inl refl; foreign = foreign_same region cache; fewer = omega arith; last_used = all_last cache }

-- the same blocks under ids that are no others
content_same : (old new : Space) (cache after : List (ℕ × ℕ)) (id : ℕ) → block_of after id ≡ block_of cache id → ((n : ℕ) → bytes_at new n ≡ bytes_at old n) → content_of new after id ≡ content_of old cache id
content_same old new cache after id same bytes = ap (option_and_then (bytes_at new)) same ∙ go (block_of cache id)
  where
    go : (o : Option ℕ) → option_and_then (bytes_at new) o ≡ option_and_then (bytes_at old) o
    go None = refl
    go (Some n) = bytes n

pub left_packed : (region packed : Space) (cache : List (ℕ × ℕ)) → IsHeld region cache → IsPacked region packed → HaveLeft region cache packed cache
left_packed region packed cache held is = record {
  held = record { live = λ id n id_is. live_by_bytes region packed n (is.bytes n) (held.live id n id_is); distinct = held.distinct };
  all = λ id. inl (content_same region packed cache cache id refl is.bytes);
  foreign = record {
    size_stays = is.size_stays;
    most_stays = is.most_stays;
    bytes_stay = λ n foreign lives. (foreign, is.bytes n);
    no_more = λ n foreign lives. (foreign, live_by_bytes packed region n (sym (is.bytes n)) lives);
    count_stays = let same = is.live_stays in omega arith;
  };
  fewer = omega arith;
  last_used = all_last cache;
}

-- ---- one after another

pub foreign_again : (r s t : Space) (a b c : List (ℕ × ℕ)) → ForeignStay r a s b → ForeignStay s b t c → ForeignStay r a t c
foreign_again r s t a b c first second = record {
  size_stays = second.size_stays ∙ first.size_stays;
  most_stays = second.most_stays ∙ first.most_stays;
  bytes_stay = λ n foreign lives.
      let once = first.bytes_stay n foreign lives in
      let twice = second.bytes_stay n once.0 (live_by_bytes r s n once.1 lives) in
      (twice.0, twice.1 ∙ once.1);
  no_more = λ n foreign lives. let once = second.no_more n foreign lives in first.no_more n once.0 once.1;
  count_stays = let once = first.count_stays in let twice = second.count_stays in omega arith;
}

pub stays_again : (r s t : Space) (a b c : List (ℕ × ℕ)) (id : ℕ) → StaysOrLeaves r a s b id → StaysOrLeaves s b t c id → StaysOrLeaves r a t c id
stays_again r s t a b c id (inl same) (inl again) = inl (again ∙ same)
stays_again r s t a b c id (inr none) (inl again) = inr (again ∙ none)
stays_again r s t a b c id first (inr none) = inr none

pub left_again : (r s t : Space) (a b c : List (ℕ × ℕ)) → HaveLeft r a s b → HaveLeft s b t c → HaveLeft r a t c
left_again r s t a b c first second = record {
  held = second.held;
  all = λ id. stays_again r s t a b c id (first.all id) (second.all id);
  foreign = foreign_again r s t a b c first.foreign second.foreign;
  fewer = let once = first.fewer in let twice = second.fewer in omega arith;
  last_used = second.last_used ∙ ap (take (length c)) first.last_used ∙ take-take (length c) (length b) a second.fewer;
}

-- an id that is not cached is not cached once others have left
pub none_stays : (r s : Space) (a b : List (ℕ × ℕ)) (id : ℕ) → HaveLeft r a s b → block_of a id ≡ None → block_of b id ≡ None
none_stays r s a b id left none = go (block_of b id) refl
  where
    was_none : content_of r a id ≡ None
    was_none = ap (option_and_then (bytes_at r)) none

    is_none : content_of s b id ≡ None
    is_none = elim (left.all id) [
      | inl same ↦ same ∙ was_none
      | inr gone ↦ gone
    ]

    go : (o : Option ℕ) → block_of b id ≡ o → block_of b id ≡ None
    go None now = now
    go (Some n) now =
        let p = some_is (block_at s n) (left.held.live id n now) in
        let shown : content_of s b id ≡ Some (bytes_of s.memory p.0) = ap (option_and_then (bytes_at s)) now ∙ ap (option_map (bytes_of s.memory)) p.1 in
        let hidden = is_none in
        absurd cc

-- ---- one more content

module _ (before taken written : Space) (cache : List (ℕ × ℕ)) (id n number : ℕ) (bytes : List ℕ) (held : IsHeld before cache) (is : IsTaken before taken n number) (put : AreWritten taken written number bytes)
    (blocks : written.blocks ≡ taken.blocks) (sized : size written ≡ size taken) (new : block_of cache id ≡ None) where
  abbrev pub kept : List (ℕ × ℕ)
  kept = (id, number) ∷ cache

  its_block : Placed
  its_block = record { at = is.at; len = n }

  not_live : (m : ℕ) → IsLive before m → m ≢ number
  not_live m lives same = let dead : is_some (block_at before m) ≡ false = ap is_some (subst (λ k. block_at before k ≡ None) (sym same) is.fresh) in absurd cc

  bytes_same : (m : ℕ) → m ≢ number → bytes_at written m ≡ bytes_at before m
  bytes_same m differs = put.others m differs ∙ ap (λ s. bytes_at s m) is.becomes ∙ bytes_other before number m (Some (record { at = is.at; len = n })) (λ same. differs (sym same))

  lives_now : IsLive written number
  lives_now = go (block_at written number) refl
    where
      go : (o : Option Placed) → block_at written number ≡ o → IsLive written number
      go (Some p) some = ap is_some some
      go None none = let gone : bytes_at written number ≡ None = ap (option_map (bytes_of written.memory)) none in let there = put.there in absurd cc

  count_now : live written ≡ live before + 1
  count_now =
      let p : Option Placed = Some (record { at = is.at; len = n }) in
      let sum : sum_by one (set before.blocks number p) + one (block_at before number) ≡ sum_by one before.blocks + 1 = sum_by-set one before.blocks number p None is.below in
      let was : one (block_at before number) ≡ 0 = ap one is.fresh in
      let same : live written ≡ live taken = ap (λ bs. sum_by one bs) blocks in
      let came : live taken ≡ sum_by one (set before.blocks number p) = ap live is.becomes in
      omega arith

  its_own : block_of kept id ≡ Some number
  its_own = found_front cache id number

  of_another : (other : ℕ) → other ≢ id → block_of kept other ≡ block_of cache other
  of_another other differs = others_front cache id number other differs

  was_cached : (other m : ℕ) → other ≢ id → block_of kept other ≡ Some m → block_of cache other ≡ Some m
  was_cached other m differs other_is = sym (of_another other differs) ∙ other_is

  pub held_kept : IsHeld written kept
  held_kept = record {
    live = λ other m other_is. elim (cases_eq other id) [
      | inl same ↦
          let its : block_of kept id ≡ Some m = subst (λ k. block_of kept k ≡ Some m) same other_is in
          let own = its_own in
          let which : number ≡ m = cc in
          subst (IsLive written) which lives_now
      | inr differs ↦
          let lives = held.live other m (was_cached other m differs other_is) in
          live_by_bytes before written m (bytes_same m (not_live m lives)) lives
    ];
    distinct = λ a b m a_is b_is. elim (cases_eq a id) [
      | inl first ↦ elim (cases_eq b id) [
        | inl second ↦ first ∙ sym second
        | inr differs ↦
            let its : block_of kept id ≡ Some m = subst (λ k. block_of kept k ≡ Some m) first a_is in
            let own = its_own in
            let which : m ≡ number = cc in
            absurd (not_live m (held.live b m (was_cached b m differs b_is)) which)
      ]
      | inr differs ↦ elim (cases_eq b id) [
        | inl second ↦
            let its : block_of kept id ≡ Some m = subst (λ k. block_of kept k ≡ Some m) second b_is in
            let own = its_own in
            let which : m ≡ number = cc in
            absurd (not_live m (held.live a m (was_cached a m differs a_is)) which)
        | inr other ↦ held.distinct a b m (was_cached a m differs a_is) (was_cached b m other b_is)
      ]
    ];
  }

  pub content_kept : content_of written kept id ≡ Some bytes
  content_kept = ap (option_and_then (bytes_at written)) its_own ∙ put.there

  pub content_others : (other : ℕ) → other ≢ id → content_of written kept other ≡ content_of before cache other
  content_others other differs = ap (option_and_then (bytes_at written)) (of_another other differs) ∙ go (block_of cache other) refl
    where
      go : (o : Option ℕ) → block_of cache other ≡ o → option_and_then (bytes_at written) (block_of cache other) ≡ option_and_then (bytes_at before) (block_of cache other)
      go None none = ap (option_and_then (bytes_at written)) none ∙ sym (ap (option_and_then (bytes_at before)) none)
      go (Some m) some =
          ap (option_and_then (bytes_at written)) some
          ∙ bytes_same m (not_live m (held.live other m some))
          ∙ sym (ap (option_and_then (bytes_at before)) some)

  pub foreign_kept : ForeignStay before cache written kept
  foreign_kept = record {
    size_stays = sized ∙ ap size is.becomes;
    most_stays = ap length blocks ∙ ap most is.becomes ∙ length-set before.blocks number (Some (record { at = is.at; len = n }));
    bytes_stay = λ m foreign lives. (
      (
          λ other other_is. elim (cases_eq other id) [
            | inl same ↦
                let its : block_of kept id ≡ Some m = subst (λ k. block_of kept k ≡ Some m) same other_is in
                let own = its_own in
                let which : m ≡ number = cc in
                not_live m lives which
            | inr differs ↦ foreign other (was_cached other m differs other_is)
          ]
          ),
      bytes_same m (not_live m lives),
    );
    no_more = λ m foreign lives.
        let differs : m ≢ number = λ same. foreign id (its_own ∙ ap Some (sym same)) in (
          λ other other_is. elim (cases_eq other id) [
            | inl same ↦ let none : block_of cache other ≡ None = subst (λ k. block_of cache k ≡ None) (sym same) new in absurd cc
            | inr apart ↦ foreign other (of_another other apart ∙ other_is)
          ],
          live_by_bytes written before m (sym (bytes_same m differs)) lives,
        );
    count_stays = let more = count_now in omega arith;
  }

  -- a block that is given back again
  bytes_again : (m : ℕ) → bytes_at (with_block written number None) m ≡ bytes_at before m
  bytes_again m = elim (cases_eq m number) [
    | inl same ↦
        subst (λ k. bytes_at (with_block written number None) k ≡ bytes_at before k) (sym same) (ap (option_map (bytes_of written.memory)) (ended_here written number) ∙ sym (ap (option_map (bytes_of before.memory)) is.fresh))
    | inr differs ↦ bytes_other written number m None (λ same. differs (sym same)) ∙ bytes_same m differs
  ]

  pub content_again_given : (other : ℕ) → content_of (with_block written number None) cache other ≡ content_of before cache other
  content_again_given other = content_same before (with_block written number None) cache cache other refl bytes_again

  pub left_again_given : HaveLeft before cache (with_block written number None) cache
  left_again_given = record {
    held = record { live = λ other m other_is. live_by_bytes before (with_block written number None) m (bytes_again m) (held.live other m other_is); distinct = held.distinct };
    all = λ other. inl (content_again_given other);
    foreign = record {
      size_stays = sized ∙ ap size is.becomes;
      most_stays = length-set written.blocks number None ∙ ap length blocks ∙ ap most is.becomes ∙ length-set before.blocks number (Some (record { at = is.at; len = n }));
      bytes_stay = λ m foreign lives. (foreign, bytes_again m);
      no_more = λ m foreign lives. (foreign, live_by_bytes (with_block written number None) before m (sym (bytes_again m)) lives);
      count_stays = let less = ended_count written number lives_now in let more = count_now in omega arith;
    };
    fewer = omega arith;
    last_used = all_last cache;
  }

-- ---- a block for something else

module _ (before taken : Space) (cache : List (ℕ × ℕ)) (n number : ℕ) (held : IsHeld before cache) (is : IsTaken before taken n number) where
  pub apart_taken : IsForeign cache number
  apart_taken id has = let dead : is_some (block_at before number) ≡ false = ap is_some is.fresh in let lives = held.live id number has in absurd cc

-- ---- holes

-- a block that ends leaves every hole
pub hole_stays : (region : Space) (number at n : ℕ) → IsHole region at n → IsHole (with_block region number None) at n
hole_stays region number at n hole = record {
  inside = hole.inside;
  clear = λ m p is. elim (cases_eq m number) [
    | inl same ↦ let none : block_at (with_block region number None) m ≡ None = subst (λ k. block_at (with_block region number None) k ≡ None) (sym same) (ended_here region number) in absurd cc
    | inr differs ↦ hole.clear m p (sym (block_other region number m None (λ same. differs (sym same))) ∙ is)
  ];
}

-- the free bytes in one hole hold whatever is no larger
pub hole_for : (region : Space) (wanted : ℕ) → IsOneHole region → wanted ≤ free region → HasNoHole region wanted → ⊥
hole_for region wanted whole enough none = none (size region - free region) (record {
  inside = let inside = whole.inside in omega arith;
  clear = λ m p is. elim (whole.clear m p is) [
    | inl before ↦ inl before
    | inr behind ↦ inr (omega arith)
  ];
})
