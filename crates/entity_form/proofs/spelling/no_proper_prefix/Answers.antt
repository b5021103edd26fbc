use Rattle.entity_form.proofs.Spellings.{told_apart}
use Rattle.entity_form.proofs.spelling.no_proper_prefix.Goals as goal

pub returns : goal.returns
returns c = λ r s more r_is s_is e. told_apart r s more r_is s_is e
