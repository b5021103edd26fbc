-- How keys move back over a gap, one after another, until a place is empty.
use Rattle.std.proofs.Common.{◌≡◌, ◌≢◌, ℕ, ◌+◌, ◌-◌, ◌<◌, ◌≤◌, ◌⊎◌, inl, inr, List, length, set, Some, slice_get, get_or, count_by, sym, ap, subst, ◌∙◌, arith, length-set}
use Rattle.std.specs.Prelude.{swap}
use Rattle.std.proofs.lemmas.List.Edits.{swap_is}
use Rattle.std.proofs.lemmas.Option.{slice_get_within, get_or_from_slice_get}
use Rattle.std.proofs.lemmas.Bool.{cases_lt, cases_eq}
use Rattle.oid_table.specs.declared.slot.Slot.{Slot}
use Rattle.oid_table.specs.declared.slot.Slot.TheVariants.{Empty, Full}
use Rattle.oid_table.specs.Distances.{distance, home_of, next_place}
use Rattle.oid_table.specs.Slots.{Holds, Lacks, IsPassed, HasOtherEmpty, contents_of, is_full}
use Rattle.oid_table.specs.Sound.{ComesBefore, IsReached, IsReachedBut}
use Rattle.oid_table.proofs.DistanceLemmas.{distance-lt, distance-same, distance-injective, distance-next_place, home_of-lt, next_place-lt, passes_over}
use Rattle.oid_table.proofs.SlotLemmas.{not_empty, one_key, Holds-within, slice_get-set_same, slice_get-set_other, set-set_other, lacks_taken, count-fill, count-empty}
use Rattle.oid_table.proofs.ContentsLemmas.{contents_of-set_new, insert-contents_of_taken}

module _ {V : Type 0} where
  -- the gap has gone some way up from its start and the scan further, and what is between them stands
  -- where a search finds it without the gap
  pub record IsScanned (start gap place : ℕ) (slots : List (Slot V)) : Type 0 where
    pub gap_empty : slice_get slots gap ≡ Some Empty
    pub inside : place < length slots
    pub reached : IsReachedBut gap slots
    pub ahead : distance (length slots) start gap < distance (length slots) start place
    pub settled : (at key : ℕ) → Holds slots at key → ComesBefore slots key gap at
        → (distance (length slots) start at ≤ distance (length slots) start gap) ⊎ (distance (length slots) start place ≤ distance (length slots) start at)
    pub stop : ℕ
    pub stop_empty : slice_get slots stop ≡ Some Empty
    pub stop_ahead : distance (length slots) start place ≤ distance (length slots) start stop

  -- the distance of a place from the home of a key
  abbrev away : List (Slot V) → ℕ → ℕ → ℕ
  away slots key place = distance (length slots) (home_of (length slots) key) place

  -- no key stands at two places
  unique_but : (slots : List (Slot V)) (gap key a b : ℕ) → slice_get slots gap ≡ Some Empty → IsReachedBut gap slots → Holds slots a key → Holds slots b key → ComesBefore slots key a b → ⊥
  unique_but slots gap key a b empty reached at_a at_b before =
      elim (reached b key a at_b (Holds-within slots a key at_a) before) [
        | inl here ↦ not_empty slots gap key empty (subst (λ p. Holds slots p key) here at_a)
        | inr other ↦ other.differs (one_key slots a _ _ other.held at_a)
      ]

  pub unique_but_gap : (slots : List (Slot V)) (gap key a b : ℕ) → slice_get slots gap ≡ Some Empty → IsReachedBut gap slots → Holds slots a key → Holds slots b key → a ≡ b
  unique_but_gap slots gap key a b empty reached at_a at_b =
      let a_in = Holds-within slots a key at_a in
      let b_in = Holds-within slots b key at_b in
      elim (cases_lt (away slots key a) (away slots key b)) [
        | inl before ↦ absurd (unique_but slots gap key a b empty reached at_a at_b before)
        | inr not_before ↦ elim (cases_lt (away slots key b) (away slots key a)) [
          | inl after ↦ absurd (unique_but slots gap key b a empty reached at_b at_a after)
          | inr not_after ↦ distance-injective (length slots) (home_of (length slots) key) a b (home_of-lt (length slots) key (omega arith)) a_in b_in (omega arith)
        ]
      ]

  -- the scan begins behind the gap
  pub IsScanned-start : (slots : List (Slot V)) (gap : ℕ) → slice_get slots gap ≡ Some Empty → IsReachedBut gap slots → HasOtherEmpty slots gap → IsScanned gap gap (next_place (length slots) gap) slots
  IsScanned-start slots gap empty reached other =
      let n = length slots in
      let gap_in : gap < n = slice_get_within slots gap _ empty in
      let other_in : other.place < n = slice_get_within slots other.place _ other.empty in
      let here : distance n gap gap ≡ 0 = distance-same n gap in
      let apart : distance n gap other.place ≢ 0 = λ none. other.other (distance-injective n gap other.place gap gap_in other_in gap_in (none ∙ sym here)) in
      let below : distance n gap other.place < n = distance-lt n gap other.place gap_in other_in in
      let some : 0 < distance n gap other.place = elim (cases_lt 0 (distance n gap other.place)) [ inl more ↦ more | inr none ↦ absurd (apart (omega arith)) ] in
      let one : distance n gap (next_place n gap) ≡ distance n gap gap + 1 = distance-next_place n gap gap gap_in gap_in (omega arith) in
      record {
        gap_empty = empty;
        inside = next_place-lt n gap gap_in;
        reached = reached;
        ahead = omega arith;
        settled = λ at key held before. elim (cases_lt 0 (distance n gap at)) [ inl more ↦ inr (omega arith) | inr none ↦ inl (omega arith) ];
        stop = other.place;
        stop_empty = other.empty;
        stop_ahead = omega arith;
      }

  module _ (slots : List (Slot V)) (start gap place : ℕ) (start_in : start < length slots) (s : IsScanned start gap place slots) where
    -- at an empty place each search is reached again
    pub IsReached-from_scan : slice_get slots place ≡ Some Empty → IsReached slots
    IsReached-from_scan empty at key x held x_in before =
        elim (s.reached at key x held x_in before) [
          | inr passed ↦ passed
          | inl here ↦
              let n = length slots in
              let at_in = Holds-within slots at key held in
              let gap_in = slice_get_within slots gap _ s.gap_empty in
              let home_in = home_of-lt n key (omega arith) in
              let by : ComesBefore slots key gap at = subst (λ p. ComesBefore slots key p at) here before in
              let outside : (distance n start at ≤ distance n start gap) ⊎ (distance n start place < distance n start at) =
              elim (s.settled at key held by) [
                | inl behind ↦ inl behind
                | inr further ↦ elim (cases_lt (distance n start place) (distance n start at)) [
                  | inl beyond ↦ inr beyond
                  | inr not_beyond ↦
                      let same = distance-injective n start at place start_in at_in s.inside (omega arith) in
                      absurd (not_empty slots place key empty (subst (λ p. Holds slots p key) same held))
                ]
              ] in
              let over = passes_over n start (home_of n key) gap place at start_in home_in gap_in s.inside at_in s.ahead by outside in
              elim (s.reached at key place held s.inside over) [
                | inl at_gap ↦ let ahead = s.ahead in let none = ap (distance n start) at_gap in absurd (omega arith)
                | inr passed ↦ absurd (not_empty slots place _ empty passed.held)
              ]
        ]

    module _ (key : ℕ) (value : V) (full : slice_get slots place ≡ Some (Full key value)) where
      held_here : Holds slots place key
      held_here = record { value = value; full = full }

      gap_within : gap < length slots
      gap_within = slice_get_within slots gap _ s.gap_empty

      -- the empty place where the scan stops is further on
      stop_beyond : distance (length slots) start place + 1 ≤ distance (length slots) start s.stop
      stop_beyond =
          let n = length slots in
          let ahead = s.stop_ahead in
          let stop_in = slice_get_within slots s.stop _ s.stop_empty in
          elim (cases_lt (distance n start place) (distance n start s.stop)) [
            | inl beyond ↦ omega arith
            | inr not_beyond ↦
                let same = distance-injective n start s.stop place start_in stop_in s.inside (omega arith) in
                absurd (not_empty slots s.stop key s.stop_empty (subst (λ p. Holds slots p key) (sym same) held_here))
          ]

      one_further : distance (length slots) start (next_place (length slots) place) ≡ distance (length slots) start place + 1
      one_further =
          let n = length slots in
          let beyond = stop_beyond in
          let below = distance-lt n start s.stop start_in (slice_get_within slots s.stop _ s.stop_empty) in
          distance-next_place n start place start_in s.inside (omega arith)

      -- the measure of the scan
      pub fewer_left : length slots - distance (length slots) start (next_place (length slots) place) < length slots - distance (length slots) start place
      fewer_left =
          let one = one_further in
          let below = distance-lt (length slots) start place start_in s.inside in
          omega arith

      -- a key that a search finds without the gap stays
      pub IsScanned-stay : (ComesBefore slots key gap place → ⊥) → IsScanned start gap (next_place (length slots) place) slots
      IsScanned-stay stays =
          let n = length slots in
          let one = one_further in
          let ahead = s.ahead in
          record {
            gap_empty = s.gap_empty;
            inside = next_place-lt n place s.inside;
            reached = s.reached;
            ahead = omega arith;
            settled = λ at k held by. elim (s.settled at k held by) [
              | inl behind ↦ inl behind
              | inr further ↦ elim (cases_lt (distance n start place) (distance n start at)) [
                | inl beyond ↦ inr (omega arith)
                | inr not_beyond ↦
                    let same = distance-injective n start at place start_in (Holds-within slots at k held) s.inside (omega arith) in
                    let is_key = one_key slots place k key (subst (λ p. Holds slots p k) same held) held_here in
                    absurd (stays (subst (λ q. ComesBefore slots q gap place) is_key (subst (λ p. ComesBefore slots k gap p) same by)))
              ]
            ];
            stop = s.stop;
            stop_empty = s.stop_empty;
            stop_ahead = let beyond = stop_beyond in omega arith;
          }

      -- the slots once the key went back to the gap
      abbrev moved : List (Slot V)
      moved = set (set slots place Empty) gap (Full key value)

      length-moved : length moved ≡ length slots
      length-moved = length-set (set slots place Empty) gap (Full key value) ∙ length-set slots place Empty

      module _ (goes_back : ComesBefore slots key gap place) where
        apart : gap ≢ place
        apart same = let ahead = s.ahead in let none = ap (distance (length slots) start) same in omega arith

        moved-at_gap : slice_get moved gap ≡ Some (Full key value)
        moved-at_gap = slice_get-set_same (set slots place Empty) gap (Full key value) (let same = length-set slots place Empty in let within = gap_within in omega arith)

        moved-at_place : slice_get moved place ≡ Some Empty
        moved-at_place = slice_get-set_other (set slots place Empty) gap (Full key value) place (λ e. apart (sym e)) ∙ slice_get-set_same slots place Empty s.inside

        moved-at_other : (x : ℕ) → x ≢ gap → x ≢ place → slice_get moved x ≡ slice_get slots x
        moved-at_other x not_gap not_place = slice_get-set_other (set slots place Empty) gap (Full key value) x not_gap ∙ slice_get-set_other slots place Empty x not_place

        passed_still : (x k : ℕ) → x ≢ place → IsPassed slots x k → IsPassed moved x k
        passed_still x k not_place passed =
            let not_gap : x ≢ gap = λ here. not_empty slots gap _ s.gap_empty (subst (λ p. Holds slots p passed.other) here passed.held) in
            record { other = passed.other; held = record { value = passed.held.value; full = moved-at_other x not_gap not_place ∙ passed.held.full }; differs = passed.differs }

        -- a search for the key that went back
        passed_to_gap : (x : ℕ) → x < length slots → ComesBefore slots key x gap → IsPassed moved x key
        passed_to_gap x x_in before =
            elim (s.reached place key x held_here x_in (omega arith)) [
              | inl here ↦ let none = ap (away slots key) here in absurd (omega arith)
              | inr passed ↦ passed_still x key (λ here. let none = ap (away slots key) here in omega arith) passed
            ]

        -- a search for another key
        passed_elsewhere : (at k x : ℕ) → at ≢ place → Holds slots at k → x < length slots → ComesBefore slots k x at → (x ≡ place) ⊎ IsPassed moved x k
        passed_elsewhere at k x not_place held x_in before =
            elim (s.reached at k x held x_in before) [
              | inl here ↦
                  let differs : key ≢ k = λ same. not_place (unique_but_gap slots gap k at place s.gap_empty s.reached held (subst (λ q. Holds slots place q) same held_here)) in
                  inr (subst (λ p. IsPassed moved p k) (sym here) (record { other = key; held = record { value = value; full = moved-at_gap }; differs = differs }))
              | inr passed ↦ elim (cases_eq x place) [
                | inl there ↦ inl there
                | inr not_there ↦ inr (passed_still x k not_there passed)
              ]
            ]

        IsReachedBut-moved : IsReachedBut place moved
        IsReachedBut-moved at k x held x_in before =
            let x_in' : x < length slots = subst (λ n. x < n) length-moved x_in in
            let before' : ComesBefore slots k x at = subst (λ n. distance n (home_of n k) x < distance n (home_of n k) at) length-moved before in
            elim (cases_eq at place) [
              | inl here ↦ absurd (not_empty moved place k moved-at_place (subst (λ p. Holds moved p k) here held))
              | inr not_place ↦ elim (cases_eq at gap) [
                | inl back ↦
                    let is_key = one_key moved gap k key (subst (λ p. Holds moved p k) back held) (record { value = value; full = moved-at_gap }) in
                    inr (subst (λ q. IsPassed moved x q) (sym is_key) (passed_to_gap x x_in' (subst (λ q. ComesBefore slots q x gap) is_key (subst (λ p. ComesBefore slots k x p) back before'))))
                | inr not_gap ↦ passed_elsewhere at k x not_place (record { value = held.value; full = sym (moved-at_other at not_gap not_place) ∙ held.full }) x_in' before'
              ]
            ]

        -- a key that a search finds by the gap alone goes back, and its place is the gap
        pub IsScanned-move : IsScanned start place (next_place (length slots) place) moved
        IsScanned-move =
            let n = length slots in
            let same = sym length-moved in
            let one = one_further in
            let ahead = s.ahead in
            let beyond = stop_beyond in
            let not_gap : s.stop ≢ gap = λ e. let none = ap (distance n start) e in let further = s.stop_ahead in omega arith in
            let not_place : s.stop ≢ place = λ e. let none = ap (distance n start) e in omega arith in
            record {
              gap_empty = moved-at_place;
              inside = subst (λ m. next_place n place < m) same (next_place-lt n place s.inside);
              reached = IsReachedBut-moved;
              ahead = subst (λ m. distance m start place < distance m start (next_place n place)) same (omega arith);
              settled = λ at k held by. subst (λ m. (distance m start at ≤ distance m start place) ⊎ (distance m start (next_place n place) ≤ distance m start at)) same
                  (elim (cases_lt (distance n start place) (distance n start at)) [ inl after ↦ inr (omega arith) | inr behind ↦ inl behind ]);
              stop = s.stop;
              stop_empty = moved-at_other s.stop not_gap not_place ∙ s.stop_empty;
              stop_ahead = subst (λ m. distance m start (next_place n place) ≤ distance m start s.stop) same (omega arith);
            }

        swap-is_moved : swap slots gap place ≡ moved
        swap-is_moved =
            sym (swap_is slots gap place Empty gap_within s.inside)
            ∙ ap (λ x. set (set slots gap x) place (get_or slots gap Empty)) (get_or_from_slice_get slots place (Full key value) Empty full)
            ∙ ap (λ x. set (set slots gap (Full key value)) place x) (get_or_from_slice_get slots gap Empty Empty s.gap_empty)
            ∙ set-set_other slots gap place (Full key value) Empty apart

        pub contents_of-swap : contents_of (swap slots gap place) ≡ contents_of slots
        contents_of-swap =
            let lacks : Lacks (set slots place Empty) key = lacks_taken slots place key value s.inside full (λ at held. unique_but_gap slots gap key at place s.gap_empty s.reached held held_here) in
            let at_gap = slice_get-set_other slots place Empty gap apart ∙ s.gap_empty in
            ap contents_of swap-is_moved ∙ contents_of-set_new (set slots place Empty) gap key value at_gap lacks ∙ insert-contents_of_taken slots place key value full lacks

        pub count-swap : count_by is_full (swap slots gap place) ≡ count_by is_full slots
        count-swap =
            let at_gap = slice_get-set_other slots place Empty gap apart ∙ s.gap_empty in
            let filled = count-fill (set slots place Empty) gap key value at_gap in
            ap (count_by is_full) swap-is_moved ∙ filled ∙ count-empty slots place key value full

        pub IsScanned-swap : IsScanned start place (next_place (length slots) place) (swap slots gap place)
        IsScanned-swap = subst (IsScanned start place (next_place (length slots) place)) (sym swap-is_moved) IsScanned-move
