-- The answer is the one channel that is the first apart.
use Rattle.store_agreement.proofs.FirstApart.{refusal_is_exact}
use Rattle.store_agreement.proofs.agreement.agree.Goals as goal

pub returns-in-Some-clause-err : goal.returns-in-Some-clause-err
returns-in-Some-clause-err c = refusal_is_exact _ _ _ _ c.least_number-common.ensures c.in-Some.ensures.within c.in-Some.ensures.before c.in-Some.ensures.apart
