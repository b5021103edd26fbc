use Rattle.std.proofs.Common.{rules, ◌≡◌, ◌∙◌, Option, None, Some, IsSomeAnd, true, ap, ap₂}
use Rattle.std.proofs.lemmas.Result.{IfOk-weaker}
use Rattle.clap.specs.Words.{App, Rule, new_app, rule_of, with_rule}
use Rattle.store_words.specs.ClapCommands.{count_of, words_rule}
use Rattle.store_words.proofs.command.command.Goals as goal

some_is : {A : Type 0} (o : Option A) (x : A) → IsSomeAnd o (λ y. y ≡ x) → o ≡ Some x
some_is None x is = absurd is
some_is (Some y) x is = ap Some is

pub returns-clause-shape : goal.returns-clause-shape
returns-clause-shape c =
    let sized : c.num_args.result.num_vals ≡ Some (count_of c.args.verb) = some_is _ _ c.num_args.ensures.1 ∙ ap Some c.count.ensures in
    let words_is : rule_of c.required-words.result ≡ words_rule c.args.verb =
    ap rule_of c.required-words.ensures ∙ ap (λ (r : Rule). record r { required = true }) (ap rule_of c.num_args.ensures.0)
    ∙ (λ i. record (c.new.ensures.rule i) { range = sized i; required = true }) in
    IfOk-weaker c.arg.result _ _
    (λ command adds. ap (λ (a : App). a.top) (adds.shape (search rules) ∙ ap₂ with_rule (c.new-2.ensures.app ∙ ap new_app c.name.ensures) words_is))
    c.arg.ensures
