use Rattle.std.proofs.Common.{◌+◌, ◌*◌, length, refl, subst, arith}
use Rattle.std.proofs.lemmas.Result.{IfOk-weaker}
use Rattle.session_lines.specs.Loads.{IsRead}
use Rattle.session_lines.proofs.Shortness.{few_steps, if_at_most_few, if_short_few}
use Rattle.session.proofs.SteadySteps.{if_short_whole, short_whole}
use Rattle.session.proofs.commands.carry_out.Goals as goal

pub declare_type-requires-clause-grammar : goal.declare_type-requires-clause-grammar
declare_type-requires-clause-grammar c = subst IsRead c.in-DeclareType.is c.requires.read

pub refactor-requires-clause-one_form : goal.refactor-requires-clause-one_form
refactor-requires-clause-one_form c = subst IsRead c.in-Refactor.is c.requires.read

pub returns-in-DeclareType : goal.returns-in-DeclareType
returns-in-DeclareType c = rw c.in-DeclareType.is (record {
  known = c.declare_type.ensures.known;
  steady = c.declare_type.ensures.steady;
  whole = if_short_whole c.declare_type.result c.declare_type.ensures.short;
  meets = λ is_next_type storage state admits at started. c.declare_type.ensures.meets is_next_type storage state admits at;
  few = λ g. if_short_few c.declare_type.result g c.declare_type.ensures.short;
})

pub returns-in-Refactor : goal.returns-in-Refactor
returns-in-Refactor c = rw c.in-Refactor.is (record {
  known = c.refactor.ensures.known;
  steady = c.refactor.ensures.steady;
  whole = if_short_whole c.refactor.result c.refactor.ensures.short;
  meets = λ is_next_type storage state admits at started. c.refactor.ensures.meets is_next_type storage state at;
  few = λ g. if_short_few c.refactor.result g c.refactor.ensures.short;
})

pub returns-in-New : goal.returns-in-New
returns-in-New c = rw c.in-New.is (record {
  known = c.new.ensures.known;
  steady = c.new.ensures.steady;
  whole = if_short_whole c.new.result c.new.ensures.short;
  meets = λ is_next_type storage state admits at started. c.new.ensures.meets is_next_type storage state at (started refl);
  few = λ g. if_short_few c.new.result g c.new.ensures.short;
})

pub returns-in-SetMember : goal.returns-in-SetMember
returns-in-SetMember c = rw c.in-SetMember.is (record {
  known = c.set_member.ensures.known;
  steady = c.set_member.ensures.steady;
  whole = if_short_whole c.set_member.result c.set_member.ensures.short;
  meets = λ is_next_type storage state admits at started. c.set_member.ensures.meets is_next_type storage state at (started refl) (subst IsRead c.in-SetMember.is c.requires.read);
  few = λ g. if_short_few c.set_member.result g c.set_member.ensures.short;
})

pub returns-in-AddTo : goal.returns-in-AddTo
returns-in-AddTo c = rw c.in-AddTo.is (record {
  known = c.add_to.ensures.known;
  steady = c.add_to.ensures.steady;
  whole = if_short_whole c.add_to.result c.add_to.ensures.short;
  meets = λ is_next_type storage state admits at started. c.add_to.ensures.meets is_next_type storage state at (started refl);
  few = λ g. if_short_few c.add_to.result g c.add_to.ensures.short;
})

pub returns-in-CutFrom : goal.returns-in-CutFrom
returns-in-CutFrom c = rw c.in-CutFrom.is (record {
  known = c.cut_from.ensures.known;
  steady = c.cut_from.ensures.steady;
  whole = if_short_whole c.cut_from.result c.cut_from.ensures.short;
  meets = λ is_next_type storage state admits at started. c.cut_from.ensures.meets is_next_type storage state at (started refl);
  few = λ g. if_short_few c.cut_from.result g c.cut_from.ensures.short;
})

pub returns-in-SetRoot : goal.returns-in-SetRoot
returns-in-SetRoot c = rw c.in-SetRoot.is (record {
  known = c.set_root.ensures.known;
  steady = c.set_root.ensures.steady;
  whole = if_short_whole c.set_root.result c.set_root.ensures.short;
  meets = λ is_next_type storage state admits at started. c.set_root.ensures.meets is_next_type storage state at (started refl);
  few = λ g. if_short_few c.set_root.result g c.set_root.ensures.short;
})

pub returns-in-Store : goal.returns-in-Store
returns-in-Store c = rw c.in-Store.is (record {
  known = c.store.ensures.known;
  steady = c.store.ensures.steady;
  whole = if_short_whole c.store.result c.store.ensures.short;
  meets = λ is_next_type storage state admits at started. c.store.ensures.meets is_next_type storage state at (started refl);
  few = λ g. if_short_few c.store.result g c.store.ensures.short;
})

pub returns-in-StoreAll : goal.returns-in-StoreAll
returns-in-StoreAll c = rw c.in-StoreAll.is (record {
  known = c.store_all.ensures.known;
  steady = c.store_all.ensures.steady;
  whole = if_short_whole c.store_all.result c.store_all.ensures.short;
  meets = λ is_next_type storage state admits at started. c.store_all.ensures.meets is_next_type storage state at (started refl);
  few = λ g. if_short_few c.store_all.result g c.store_all.ensures.short;
})

pub returns-in-Show : goal.returns-in-Show
returns-in-Show c = rw c.in-Show.is (record {
  known = IfOk-weaker c.show.result _ _ (λ outcome is. c.requires.known) c.show.ensures.short;
  steady = c.show.ensures.steady;
  whole = if_short_whole c.show.result c.show.ensures.short;
  meets = λ is_next_type storage state admits at started. c.show.ensures.meets is_next_type storage state at (started refl);
  few = λ g. if_short_few c.show.result g c.show.ensures.short;
})

pub returns-in-Home : goal.returns-in-Home
returns-in-Home c = rw c.in-Home.is (record {
  known = c.home.ensures.known;
  steady = c.home.ensures.steady;
  whole = if_short_whole c.home.result c.home.ensures.short;
  meets = λ is_next_type storage state admits at started. c.home.ensures.meets is_next_type storage state at (started refl);
  few = λ g. if_short_few c.home.result g c.home.ensures.short;
})

pub returns-in-Follow : goal.returns-in-Follow
returns-in-Follow c = rw c.in-Follow.is (record {
  known = c.follow.ensures.known;
  steady = c.follow.ensures.steady;
  whole = c.follow.ensures.whole;
  meets = λ is_next_type storage state admits at started. c.follow.ensures.meets is_next_type storage state at (started refl);
  few = λ g. if_at_most_few c.follow.result g (length g + 3) (omega arith) (c.follow.ensures.few g);
})

pub returns-in-Pick : goal.returns-in-Pick
returns-in-Pick c = rw c.in-Pick.is (record {
  known = c.pick.ensures.known;
  steady = c.pick.ensures.steady;
  whole = if_short_whole c.pick.result c.pick.ensures.short;
  meets = λ is_next_type storage state admits at started. c.pick.ensures.meets is_next_type storage state at (started refl);
  few = λ g. if_short_few c.pick.result g c.pick.ensures.short;
})

pub returns-in-DropName : goal.returns-in-DropName
returns-in-DropName c = rw c.in-DropName.is (record {
  known = c.drop_name.ensures.known;
  steady = c.drop_name.ensures.steady;
  whole = if_short_whole c.drop_name.result c.drop_name.ensures.short;
  meets = λ is_next_type storage state admits at started. c.drop_name.ensures.meets is_next_type storage state at (started refl);
  few = λ g. if_short_few c.drop_name.result g c.drop_name.ensures.short;
})

pub returns-in-Forget : goal.returns-in-Forget
returns-in-Forget c = rw c.in-Forget.is (record {
  known = c.forget.ensures.known;
  steady = c.forget.ensures.steady;
  whole = if_short_whole c.forget.result c.forget.ensures.short;
  meets = λ is_next_type storage state admits at started. c.forget.ensures.meets is_next_type storage state at (started refl);
  few = λ g. if_short_few c.forget.result g c.forget.ensures.short;
})

pub returns-in-Collect : goal.returns-in-Collect
returns-in-Collect c = rw c.in-Collect.is (record {
  known = c.requires.known;
  steady = c.collect.ensures.steady c.args.memory.now;
  whole = short_whole c.collect.result c.collect.ensures.short;
  meets = λ is_next_type storage state admits at started. c.collect.ensures.meets is_next_type c.args.memory.now storage state at;
  few = λ g. few_steps c.collect.result g c.collect.ensures.short;
})

pub returns-in-Tidy : goal.returns-in-Tidy
returns-in-Tidy c = rw c.in-Tidy.is (record {
  known = IfOk-weaker c.tidy.result _ _ (λ outcome is. c.requires.known) c.tidy.ensures.short;
  steady = c.tidy.ensures.steady c.args.memory.now;
  whole = if_short_whole c.tidy.result c.tidy.ensures.short;
  meets = λ is_next_type storage state admits at started. c.tidy.ensures.meets is_next_type c.args.memory.now storage state at;
  few = λ g. if_short_few c.tidy.result g c.tidy.ensures.short;
})

pub returns-in-Export : goal.returns-in-Export
returns-in-Export c = rw c.in-Export.is (record {
  known = IfOk-weaker c.export.result _ _ (λ outcome is. c.requires.known) c.export.ensures.steady;
  steady = c.export.ensures.steady;
  whole = c.export.ensures.whole;
  meets = λ is_next_type storage state admits at started. c.export.ensures.meets is_next_type storage state at (started refl);
  few = λ g. if_at_most_few c.export.result g (4 * length g + 1) (omega arith) (c.export.ensures.few g);
})
