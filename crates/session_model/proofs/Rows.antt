-- Worked scripts, by computation. Their lines are ASCII, so each is read as a line of UTF-8.
use Rattle.std.specs.Prelude.{◌≡◌, ℕ, List, [], ◌∷◌, codes, refl}
use Rattle.std.specs.Fmt.{digits}
use Rattle.type_desc.specs.Reader.{word_at}
use Rattle.type_desc.specs.Reading.{name_at}
use Rattle.refactor_table.specs.Reading.{ref_name_at, member_end_at, type_end_at}
use Rattle.session_model.specs.Answer.{State, Answer, opened, turn_of, and_then, no_answer}
use Rattle.session_model.specs.Commands.{command_in}
use Rattle.session_model.specs.Sound.{AreTypes, IsRightGraph}
use Rattle.std.proofs.Common.{arith}

abbrev answer_in : State → List (List ℕ) → Answer
answer_in state [] = no_answer
answer_in state (text ∷ lines) = let made = turn_of 16777216 state (command_in text) in and_then made (answer_in made.state lines)

abbrev answers : List (List ℕ) → List ℕ
answers lines = (answer_in (opened [] [] 0 1024) lines).bytes

types_are_known_while_they_are_the_latest :
    answers (codes "type Point int:x" ∷ codes "type Point int:x" ∷ codes "type Point int:x int:y" ∷ codes "type Point int:x" ∷ [])
    ≡ codes "type 16\ntype 16\ntype 17\ntype 18\n"
unfolding digits name_at word_at
types_are_known_while_they_are_the_latest = refl

refactor_is_judged :
    answers (codes "type A int:x" ∷ codes "type B text:y" ∷ codes "refactor A.x B.y" ∷ codes "refactor A B" ∷ codes "refactor A C" ∷ codes "refactor Root B" ∷ [])
    ≡ codes "type 16\ntype 17\nrefused wrong-kind\nok\nrefused duplicate\nrefused reserved\n"
unfolding digits name_at word_at ref_name_at member_end_at type_end_at
refactor_is_judged = refl

a_cycle_is_forgotten :
    answers (codes "type Node ref:next" ∷ codes "new a Node" ∷ codes "new b Node" ∷ codes "set a next b" ∷ codes "set b next a" ∷ codes "root a" ∷ codes "store root"
    ∷ codes "set root target null" ∷ codes "store root" ∷ codes "drop a" ∷ codes "forget" ∷ codes "collect" ∷ codes "drop b" ∷ codes "forget" ∷ codes "collect" ∷ [])
    ≡ codes "type 16\nnew 1024\nnew 1025\nok\nok\nok\nstored 1 3\nok\nstored 2 1\nok\nforgot 0\nkept 3\nok\nforgot 2\nkept 1\n"
unfolding digits name_at word_at
a_cycle_is_forgotten = refl

lines_are_refused_in_order :
    answers (codes "type Q int:n refs:l" ∷ codes "new root Q" ∷ codes "new a Q" ∷ codes "new a Q" ∷ codes "set a n 9223372036854775808" ∷ codes "set a n -9223372036854775808"
    ∷ codes "set a n x" ∷ codes "set a m 1" ∷ codes "set b n 1" ∷ codes "cut a l 0" ∷ codes "add a l a" ∷ codes "pick a l 0 c" ∷ codes "home h" ∷ codes "new z Zed" ∷ []
    ∷ codes "type Q int:n int:n" ∷ [])
    ≡ codes "type 16\nrefused reserved\nnew 1024\nrefused name-taken\nrefused range\nok\nrefused wrong-kind\nrefused no-member\nrefused no-name\nrefused range\nok\nok\nrefused no-root\nrefused no-type\nrefused bad-line\nrefused duplicate\n"
unfolding digits name_at word_at
lines_are_refused_in_order = refl

-- the empty store is one that a script may start from
the_empty_store_is_right : IsRightGraph [] 1024 []
the_empty_store_is_right = record { order = refl; good_ids = λ x l. absurd cc; forms = λ x entity is. absurd cc; sizes = λ x entity is. absurd cc; whole = λ x y l edge. absurd cc }

no_types_are_right : AreTypes []
no_types_are_right = record { most = omega arith; each = λ i desc e. absurd cc }
