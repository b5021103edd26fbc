use Rattle.std.proofs.Common.{◌≡◌, ℕ, ◌^◌, false, List, Result, Ok, Err, Option, IfOk, IfErr, IfSome, IfNone, rules, subst, sym}
use Rattle.std.specs.Result.{result_ok}
use Rattle.std.proofs.lemmas.List.Sorted.{answers_always}
use Rattle.transactions_file.specs.Files.{is_live, IsAt}
use Rattle.transactions_file.proofs.Places.{searched}
use Rattle.transactions_file.proofs.files.find.Goals as goal

ok_found : (files : List (ℕ × ℕ)) (f : ℕ) (r : Result ℕ ℕ) (o : Option ℕ) → o ≡ result_ok r → IfOk r (IsAt files f) → IfSome o (IsAt files f)
ok_found files f (Ok at) o is found = subst (λ o. IfSome o (IsAt files f)) (sym is) found
ok_found files f (Err at) o is found = subst (λ o. IfSome o (IsAt files f)) (sym is) tt

err_none : (files : List (ℕ × ℕ)) (f : ℕ) (r : Result ℕ ℕ) (o : Option ℕ) → o ≡ result_ok r → IfErr r (λ at. is_live files f ≡ false) → IfNone o (is_live files f ≡ false)
err_none files f (Ok at) o is none = subst (λ o. IfNone o (is_live files f ≡ false)) (sym is) tt
err_none files f (Err at) o is none = subst (λ o. IfNone o (is_live files f ≡ false)) (sym is) none

pub returns-clause-found : goal.returns-clause-found
returns-clause-found c =
    let facts = c.binary_search_by_key.ensures in
    let by_number = facts.position (λ pair. pair.0) (answers_always _ _ _ (λ f a r g called. search rules)) in
    ok_found c.args.files.now c.args.file _ _ c.ok.ensures.value (searched c.args.files.now 0 (2 ^ 64) c.requires c.args.file _ facts.bound by_number).found

pub returns-clause-absent : goal.returns-clause-absent
returns-clause-absent c =
    let facts = c.binary_search_by_key.ensures in
    let by_number = facts.position (λ pair. pair.0) (answers_always _ _ _ (λ f a r g called. search rules)) in
    err_none c.args.files.now c.args.file _ _ c.ok.ensures.value (searched c.args.files.now 0 (2 ^ 64) c.requires c.args.file _ facts.bound by_number).none
