-- Each source is found, has its member's kind, and is planned.
use Rattle.std.proofs.Common.{◌≡◌, ◌<◌, ◌++◌, ◌∷◌, [], List, Option, Some, ℕ, length, take, sym, ap, subst, ◌∙◌, refl, rules, arith}
use Rattle.std.specs.Prelude.{slice_get}
use Rattle.std.proofs.lemmas.List.{take_all}
use Rattle.std.proofs.lemmas.Option.{slice_get_read, slice_get_within}
use Rattle.type_desc.specs.OwnNames.{names_of}
use Rattle.entity_form.specs.Values.{kinds_of}
use Rattle.type_desc.specs.declared.desc.Member.{Member}
use Rattle.legacy_mapping.specs.Sources.{AreApart, IsSource}
use Rattle.legacy_mapping.proofs.PositionLemmas.{length-names}
use Rattle.legacy_mapping.proofs.Plans.{planned_more, first_differing, source_within}
use Rattle.legacy_mapping.proofs.planning.plan.Goals as goal

pub has_kind-requires : goal.has_kind-requires
has_kind-requires c = λ i e.
    let is = rw (c.in_ok-search.ensures.from, c.in_ok-search.ensures.to, c.in_ok-search.ensures.table) at c.source-source.ensures.is in
    rw c.as_slice-old_members.ensures (source_within c.args.table.now c.args.old.now c.args.new.now c.index-new_members-k.result.name i c.source-source.result is e)

pub returns-then-not-has_kind-clause-fault : goal.returns-then-not-has_kind-clause-fault
returns-then-not-has_kind-clause-fault c =
    let is = rw (c.in_ok-search.ensures.from, c.in_ok-search.ensures.to, c.in_ok-search.ensures.table) at c.source-source.ensures.is in
    let member = c.index-new_members-k.result in
    let at : slice_get c.args.new.now.members c.loop-k.k ≡ Some member =
    rw c.as_slice-new_members.ensures at (slice_get_read c.as_slice-new_members.result.now (length c.as_slice-new_members.result.now) c.loop-k.k member refl c.loop-k-test.true c.index-new_members-k.is) in
    let other = c.has_kind.ensures.other c.if-not-has_kind.true in
    let old_at = rw c.as_slice-old_members.ensures at other.3 in
    first_differing c.args.table.now c.args.old.now c.args.new.now c.loop-k.k c.loop-k.sources.items member other.1 c.source-source.result other.0 c.loop-k.invariant at is other.2 old_at other.4

pub loop-k-preserved : goal.loop-k-preserved
loop-k-preserved c =
    let is = rw (c.in_ok-search.ensures.from, c.in_ok-search.ensures.to, c.in_ok-search.ensures.table) at c.source-source.ensures.is in
    let only = rw (c.in_ok-search.ensures.from, c.in_ok-search.ensures.to, c.in_ok-search.ensures.table) at c.source-source.ensures.only in
    let member = c.index-new_members-k.result in
    let at : slice_get c.args.new.now.members c.loop-k.k ≡ Some member =
    rw c.as_slice-new_members.ensures at (slice_get_read c.as_slice-new_members.result.now (length c.as_slice-new_members.result.now) c.loop-k.k member refl c.loop-k-test.true c.index-new_members-k.is) in
    let kind = rw c.as_slice-old_members.ensures at (c.has_kind.ensures.same c.if-not-has_kind.false) in
    let sound = rw c.in_ok-search.ensures.table at c.source-source.ensures.sound in
    let more = planned_more c.args.table.now c.args.old.now c.args.new.now c.loop-k.k c.loop-k.sources.items member c.source-source.result sound c.requires.new_names c.loop-k.invariant at is only kind in
    let items : c.push.new.self.items ≡ c.loop-k.sources.items ++ c.source-source.result ∷ [] = search rules in
    rw items more

pub returns-clause-only : goal.returns-clause-only
returns-clause-only c = λ sources are.
    let all : take c.loop-k.k (names_of c.args.new.now.members) ≡ names_of c.args.new.now.members =
    take_all c.loop-k.k (names_of c.args.new.now.members) (let len = length-names c.args.new.now.members in let within = rw c.as_slice-new_members.ensures at c.loop-k-test.false in omega arith) in
    c.new-2.ensures ∙ c.loop-k.invariant.only sources (rw all are)

pub returns-clause-one_kind : goal.returns-clause-one_kind
returns-clause-one_kind c = λ k differs.
    let within = slice_get_within c.args.new.now.members k differs.member differs.member_is in
    let all = rw c.as_slice-new_members.ensures at c.loop-k-test.false in
    c.loop-k.invariant.same_kinds k (omega arith) differs

pub returns-clause-apart : goal.returns-clause-apart
returns-clause-apart c = subst AreApart (sym c.new-2.ensures) c.loop-k.invariant.apart
