use Rattle.std.proofs.Common.{◌≡◌, List, length, map, ap, sym, ◌∙◌, arith}
use Rattle.std.proofs.lemmas.List.{length-map}
use Rattle.graph_model.specs.declared.entity.Record.{Record}
use Rattle.channel.specs.Entities.{header_for}
use Rattle.channel.specs.Parts.{headers_in}
use Rattle.channel.specs.declared.part.Slot.{Slot}
use Rattle.channel.proofs.part.Part.len.Goals as goal

same_count : (slots : List Slot) (rs : List Record) → headers_in slots ≡ map header_for rs → length slots ≡ length rs
same_count slots rs are = sym (length-map slots (λ (s : Slot). s.header)) ∙ ap length are ∙ length-map rs header_for

pub returns : goal.returns
returns c =
    let count = same_count c.self.inside.slots.items _ c.self.invariant.headers_are in
    rw (← c.self.view_is) (omega (arith, count, c.len.ensures))
