use Rattle.std.proofs.Common.{◌++◌, ◌∷◌, [], sym, ap, ◌∙◌, ℕ, List}
use Rattle.std.proofs.lemmas.Result.{IfOk-weaker}
use Rattle.session_lines.proofs.ExportLines.{line_is}
use Rattle.session_lines.proofs.KnownLoaded.{as_many}
use Rattle.session_lines.proofs.exporting.object_line.Goals as goal

pub line_of-requires : goal.line_of-requires
line_of-requires c = as_many c.args.types.now c.args.object.now c.in-Some.desc.now c.in-Some.ensures.value c.requires

pub returns : goal.returns
returns c = IfOk-weaker c.with_line_feed.result _ _ (λ bytes is. line_is c.args.types.now c.args.id c.args.object.now c.in-Some.desc.now bytes (sym c.in-Some.ensures.value)
    (is ∙ ap (λ (text : List ℕ). text ++ 10 ∷ []) c.in_ok-line_of-in-Some.ensures.text)) c.with_line_feed.ensures
