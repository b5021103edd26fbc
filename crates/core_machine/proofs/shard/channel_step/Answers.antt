use Rattle.std.proofs.Common.{◌∙◌, ap, sym}
use Rattle.core_steps.specs.declared.event.Event.{Event}
use Rattle.core_steps.specs.Rows.{channel_step}
use Rattle.core_machine.proofs.shard.channel_step.Goals as goal

pub returns-in-Confirm : goal.returns-in-Confirm
returns-in-Confirm c = record {
  exact = c.confirm.ensures c.args.place.now ∙ ap (λ (e : Event). channel_step c.args.place.now c.args.pair.0 c.args.pair.1 e) (sym c.in-Confirm.is);
}

pub returns-in-Pin : goal.returns-in-Pin
returns-in-Pin c =
    let e = ap (λ (e : Event). channel_step c.args.place.now c.args.pair.0 c.args.pair.1 e) (sym c.in-Pin.is) in
    let pinned = c.pin.ensures c.args.place.now in
    record { exact = rw e at pinned }

pub returns-in-Unpin : goal.returns-in-Unpin
returns-in-Unpin c = record {
  exact = c.unpin.ensures c.args.place.now ∙ ap (λ (e : Event). channel_step c.args.place.now c.args.pair.0 c.args.pair.1 e) (sym c.in-Unpin.is);
}

pub returns-in-Tidy : goal.returns-in-Tidy
returns-in-Tidy c = record {
  exact = c.tidy.ensures c.args.place.now ∙ ap (λ (e : Event). channel_step c.args.place.now c.args.pair.0 c.args.pair.1 e) (sym c.in-Tidy.is);
}
