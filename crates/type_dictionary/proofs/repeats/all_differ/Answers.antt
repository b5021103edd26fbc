-- Each name is new to the names before it, or stands twice.
use Rattle.std.proofs.Common.{◌≡◌, Bool, true, false, not, length, refl, sym, ap, ◌∙◌}
use Rattle.std.proofs.lemmas.Option.{slice_get_read}
use Rattle.type_dictionary.proofs.NameSets.{has_name, has_name-put, names_more, names_all, repeated, is_named}
use Rattle.type_dictionary.proofs.repeats.all_differ.Goals as goal

pub returns-then-not-branch : goal.returns-then-not-branch
returns-then-not-branch c =
    let member = c.member-item.result in
    let at = slice_get_read c.args.members.now (length c.args.members.now) c.loop-member.member-index member refl c.loop-member-test.true c.member-item.is in
    let had : has_name c.loop-member.names member.name ≡ true =
    ap (has_name c.loop-member.names) (sym c.as_str.ensures) ∙ was_there c.in_ok-insert.field-0 (has_name c.loop-member.names c.as_str.result.now) c.if-not-branch.true c.in_ok-insert.ensures.added in (
      λ no. absurd cc,
      λ own. absurd (repeated c.args.members.now c.loop-member.member-index member.name c.loop-member.names c.loop-member.invariant (is_named c.args.members.now c.loop-member.member-index member at) had own),
    )
  where
    was_there : (added had : Bool) → added ≡ false → added ≡ not had → had ≡ true
    was_there added true e h = refl
    was_there added false e h = absurd cc

pub loop-member-preserved : goal.loop-member-preserved
loop-member-preserved c =
    let member = c.member-item.result in
    let at = slice_get_read c.args.members.now (length c.args.members.now) c.loop-member.member-index member refl c.loop-member-test.true c.member-item.is in
    let absent : has_name c.loop-member.names member.name ≡ false =
    ap (has_name c.loop-member.names) (sym c.as_str.ensures) ∙ was_absent c.in_ok-insert.field-0 (has_name c.loop-member.names c.as_str.result.now) c.if-not-branch.false c.in_ok-insert.ensures.added in
    let put = rw c.as_str.ensures at (has_name-put c.loop-member.names c.insert.new.self c.as_str.result.now c.in_ok-insert.ensures.updates) in
    names_more c.args.members.now c.loop-member.member-index member.name c.loop-member.names c.insert.new.self c.loop-member.invariant (is_named c.args.members.now c.loop-member.member-index member at) absent put
  where
    was_absent : (added had : Bool) → added ≡ true → added ≡ not had → had ≡ false
    was_absent added true e h = absurd cc
    was_absent added false e h = refl

pub returns : goal.returns
returns c = (λ yes. names_all c.args.members.now c.loop-member.member-index c.loop-member.names c.loop-member-test.false c.loop-member.invariant, λ own. refl)
