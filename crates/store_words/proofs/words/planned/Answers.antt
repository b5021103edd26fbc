use Rattle.std.proofs.Common.{rules, ◌≡◌, ◌∙◌, Some, None, Err, sym, ap, subst, option_map}
use Rattle.store_words.specs.ClapCommands.{some_words}
use Rattle.store_words.specs.Reading.{IsTaken, words_of}
use Rattle.store_words.proofs.Spelling.{error_taken, kept_taken, nothing_taken}
use Rattle.store_words.proofs.words.planned.Goals as goal

pub returns-in_err-found : goal.returns-in_err-found
returns-in_err-found c = λ rest named plain.
    let is : c.from_residual.result ≡ Err c.in_err-found.field-0.0 = search rules in
    subst (IsTaken c.args.verb rest) (sym is) (error_taken c.args.verb rest _ (λ fits. c.in_err-found.ensures.fails c.args.verb rest named plain fits))

pub returns-in-Some : goal.returns-in-Some
returns-in-Some c = λ rest named plain.
    let kept : Some (words_of c.in-Some.rest.now) ≡ some_words rest =
    ap (option_map (λ words. words_of words.now)) (sym c.in-Some.is) ∙ c.behind_name.ensures ∙ c.in_ok-found.ensures.kept c.args.verb rest named plain in
    kept_taken c.args.verb (words_of c.in-Some.rest.now) rest c.read.result kept c.read.ensures

pub returns : goal.returns
returns c = λ rest named plain.
    let none : some_words rest ≡ None =
    sym (c.in_ok-found.ensures.kept c.args.verb rest named plain) ∙ sym c.behind_name.ensures ∙ ap (option_map (λ words. words_of words.now)) c.in-None.is in
    nothing_taken c.args.verb rest _ none
