-- The six clauses are one lemma, by how the look-up ends.
use Rattle.std.proofs.Common.{◌≡◌, ℕ, length, set, take, drop, ◌++◌, ◌≤◌, arith, List, IfOk, Some, Result, Ok, Err, refl, sym, ap, subst, ◌∙◌}
use Rattle.std.specs.Prelude.{slice_get}
use Rattle.std.proofs.lemmas.Option.{slice_get_read}
use Rattle.std.proofs.lemmas.List.{take-append-le, take-take}
use Rattle.channel.specs.declared.fault.ChannelFault.{ChannelFault}
use Rattle.graph_model.specs.declared.ask.StorageFault.{StorageFault}
use Rattle.graph_model.specs.declared.ask.Reply.{Reply}
use Rattle.core_steps.specs.Core.{home}
use Rattle.recovery.specs.Alone.{AloneState}
use Rattle.storage_alone.specs.Steady.{IsSteady}
use Rattle.storage_alone.proofs.LookEnds.{LooksRight, LooksUp, look_err, look_ok}
use Rattle.storage_alone.proofs.storage.StorageAlone.look.Given.{Over}
use Rattle.storage_alone.proofs.storage.StorageAlone.look.Goals.{in-Ok, in-Err}
use Rattle.storage_alone.proofs.storage.StorageAlone.look.Goals as goal

abbrev Up : (g : Over) → goal.Joined-lookup g → Result ℕ ChannelFault → Type 0
Up g c r = LooksUp g.D.Disk.tells g.D.Disk.reads g.D.Disk.leaves g.D.Disk.faults c.args.id c.in-Some.channel.now c.lookup.new.self c.lookup.new.out r

abbrev Right : (g : Over) → goal.Joined-lookup g → Result Reply StorageFault → Type 0
Right g c r = LooksRight g.D.Disk.tells g.D.Disk.reads g.D.Disk.leaves g.D.Disk.faults
    (record { channels = c.self.inside.channels.items; monitor = c.self.inside.monitor; hand = c.self.inside.hand })
    (record { channels = set c.self.inside.channels.items c.home-home.result c.lookup.new.self; monitor = c.self.inside.monitor; hand = c.self.inside.hand })
    c.args.id r

front : (k many : ℕ) (out window read : List ℕ) → read ≡ take many (out ++ drop (length out) window) → k ≤ length out → k ≤ many → take k read ≡ take k out
front k many out window read is le less = ap (take k) is ∙ (take-take k many (out ++ drop (length out) window) less ∙ take-append-le k out (drop (length out) window) le)

within : (g : Over) (c : goal.Joined-lookup g) (k : ℕ) → c.lookup.result ≡ Ok k → k ≤ length c.lookup.new.out
within g c k is = subst (λ (r : Result ℕ ChannelFault). IfOk r (λ n. n ≤ length c.lookup.new.out)) is c.lookup.ensures.within

looks : (g : Over) (c : goal.Joined-lookup g) → Right g c c.match-lookup.result
looks g c =
    let there : slice_get c.self.inside.channels.items c.home-home.result ≡ Some c.in-Some.channel.now = slice_get_read c.self.inside.channels.items (length c.self.inside.channels.items) c.home-home.result c.in-Some.channel.now refl c.in-Some.ensures.item.3.0 c.in-Some.ensures.item.1 in
    let steady : IsSteady (record { channels = c.self.inside.channels.items; monitor = c.self.inside.monitor; hand = c.self.inside.hand }) = rw c.self.view_is c.requires.steady in
    let at : home (length c.self.inside.channels.items) c.args.id ≡ c.home-home.result = ap (λ (s : AloneState g.row.D.Denot). home (length s.channels) c.args.id) c.self.view_is ∙ sym c.home-home.ensures.home in
    let up : Up g c c.lookup.result = record {
      entity = c.lookup.ensures.entity;
      gone = c.lookup.ensures.gone;
      fault = c.lookup.ensures.fault;
      never_changed = c.lookup.ensures.never_changed;
      rest = c.lookup.ensures.rest;
      disk = c.lookup.ensures.disk;
      falls_not = c.lookup.ensures.faults;
      cause = c.lookup.ensures.cause;
      calm = c.lookup.ensures.calm;
    } in
    elim c.match-lookup.branch [
      | in-Ok w ↦ subst (λ (r : Result Reply StorageFault). Right g c r) (sym w.result-is)
          (look_ok g.D.Disk.tells g.D.Disk.reads g.D.Disk.leaves g.D.Disk.faults _ _ c.args.id c.in-Some.channel.now c.lookup.new.self c.lookup.new.out steady there at w.in-Ok.length w.entity_in.result (subst (λ (r : Result ℕ ChannelFault). Up g c r) w.in-Ok.is up) (λ e is spelled. w.entity_in.ensures.found e is (front w.in-Ok.length c.self.inside.window.len c.lookup.new.out c.self.inside.window.items w.deref.result.now w.deref.ensures.value (within g c w.in-Ok.length w.in-Ok.is) (omega (arith, within g c w.in-Ok.length w.in-Ok.is, c.lookup.auto.out, c.deref_mut.ensures.len)) ∙ spelled)) w.entity_in.ensures.fault)
      | in-Err w ↦ subst (λ (r : Result Reply StorageFault). Right g c r) (sym (w.result-is ∙ ap (λ (f : StorageFault). Err f) w.storage_fault.ensures))
          (look_err g.D.Disk.tells g.D.Disk.reads g.D.Disk.leaves g.D.Disk.faults _ _ c.args.id c.in-Some.channel.now c.lookup.new.self c.lookup.new.out steady there at w.in-Err.fault (subst (λ (r : Result ℕ ChannelFault). Up g c r) w.in-Err.is up))
    ]

pub returns-clause-answers : goal.returns-clause-answers
returns-clause-answers g c = rw (← c.self.view_is) (looks g c).answers

pub returns-clause-steady : goal.returns-clause-steady
returns-clause-steady g c = (looks g c).steady

pub returns-clause-ends : goal.returns-clause-ends
returns-clause-ends g c = (looks g c).ends

pub returns-clause-faults : goal.returns-clause-faults
returns-clause-faults g c = rw (← c.self.view_is) (looks g c).falls_not

pub returns-clause-cause : goal.returns-clause-cause
returns-clause-cause g c = rw (← c.self.view_is) (looks g c).cause

pub returns-clause-calm : goal.returns-clause-calm
returns-clause-calm g c = rw (← c.self.view_is) (looks g c).calm
