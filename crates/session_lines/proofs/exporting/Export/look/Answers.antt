use Rattle.std.proofs.Common.{◌≡◌, ℕ, List, None, false, ap, ◌∙◌}
use Rattle.graph_model.specs.Ids.{has, insert}
use Rattle.object_registry.proofs.Numbers.{insert_key-new}
use Rattle.session_lines.specs.Exports.{Exported, looked}
use Rattle.session_lines.proofs.exporting.Export.look.Goals as goal

pub returns : goal.returns
returns c = λ new.
    let fresh : has c.args.id c.self.inside.left.keys ≡ false = ap (λ (p : Exported). has c.args.id p.left) c.self.view_is ∙ new in
    let keys : c.insert.new.self.keys ≡ insert c.args.id c.self.inside.left.keys = c.in_ok-insert.ensures.keys ∙ insert_key-new c.args.id c.self.inside.left.keys fresh in
    ap (λ (left : List ℕ). record { stage = c.self.inside.stage; asked = None; left = left; waiting = c.push_edges.new.ids.items; count = c.self.inside.count }) keys
    ∙ (ap (λ (waiting : List ℕ). record { stage = c.self.inside.stage; asked = None; left = insert c.args.id c.self.inside.left.keys; waiting = waiting; count = c.self.inside.count }) c.in_ok-push_edges.ensures
    ∙ ap (looked c.args.id c.args.entity.now) c.self.view_is)
