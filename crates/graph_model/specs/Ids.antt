-- Ids in a list by rising number: a set, or with repeats a multiset.
use Rattle.std.specs.Prelude.{ℕ, Bool, true, false, cond, ◌&&◌, ◌||◌, nat_eq, nat_lt, List, [], ◌∷◌}

-- x is in the list
abbrev pub has : ℕ → List ℕ → Bool
has x [] = false
has x (y ∷ ys) = nat_eq x y || has x ys

-- one more x, in front of the first that is not below it
abbrev pub insert : ℕ → List ℕ → List ℕ
insert x [] = x ∷ []
insert x (y ∷ ys) = cond (nat_lt y x) (y ∷ insert x ys) (x ∷ y ∷ ys)

-- x as a member of the set
abbrev pub add : ℕ → List ℕ → List ℕ
add x xs = cond (has x xs) xs (insert x xs)

-- the second set, with the ids of the first list added
abbrev pub add_all : List ℕ → List ℕ → List ℕ
add_all [] ys = ys
add_all (x ∷ xs) ys = add x (add_all xs ys)

-- one x less, where there is one
abbrev pub remove : ℕ → List ℕ → List ℕ
remove x [] = []
remove x (y ∷ ys) = cond (nat_eq x y) ys (y ∷ remove x ys)

-- the second list, with one of each id of the first removed
abbrev pub remove_all : List ℕ → List ℕ → List ℕ
remove_all [] ys = ys
remove_all (x ∷ xs) ys = remove x (remove_all xs ys)

-- x, and then the list, rise without repeats
abbrev pub rises_from : ℕ → List ℕ → Bool
rises_from x [] = true
rises_from x (y ∷ ys) = nat_lt x y && rises_from y ys

-- by rising number, without repeats
abbrev pub rises : List ℕ → Bool
rises [] = true
rises (x ∷ xs) = rises_from x xs
