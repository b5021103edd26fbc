-- The ends that agree are those of the logs.
use Rattle.std.proofs.Common.{◌≡◌, ◌∙◌, Ok, subst}
use Rattle.store_agreement.specs.Agreement.{AllAgree}
use Rattle.store_opening.proofs.agreeing.common_store.Goals as goal

pub returns-in-Ok-clause-agreed : goal.returns-in-Ok-clause-agreed
returns-in-Ok-clause-agreed c =
    let so : c.agree.result ≡ Ok c.in-Ok.common = cc in
    subst (AllAgree c.in-Ok.common) (c.deref.ensures.value ∙ c.in_ok-lasts.ensures.lasts) ((c.agree.ensures.ok c.in-Ok.common).0 so)
