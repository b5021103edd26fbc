use Rattle.std.proofs.Common.{sym}
use Rattle.session_lines.proofs.OtherKinds.{kindless}
use Rattle.session_lines.proofs.refactoring.differs.Goals as goal

pub returns-in-None : goal.returns-in-None
returns-in-None c = λ state same. rw (c.in-OfMember.is, c.in-OfMember-new.is)
    (sym (kindless state c.args.types.now c.in-OfMember.old_type c.in-OfMember.old_member c.in-OfMember-new.new_type c.in-OfMember-new.new_member same (sym c.in-None.ensures)))
