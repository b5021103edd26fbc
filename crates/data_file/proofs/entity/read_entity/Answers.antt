use Rattle.std.proofs.Common.{◌≡◌, List, ℕ, sym, subst, ◌∙◌}
use Rattle.std.proofs.lemmas.Bool.{true≢false}
use Rattle.data_file.specs.Headers.{BeginsWith}
use Rattle.data_file.proofs.HeaderFacts.{first_32}
use Rattle.data_file.proofs.entity.read_entity.Goals as goal

pub returns-then-begins_with-clause-same_at : goal.returns-then-begins_with-clause-same_at
returns-then-begins_with-clause-same_at g c told =
    subst (λ (l : List ℕ). BeginsWith l c.args.header) (first_32 c.args.header.length _ _ c.requires.whole (c.in_ok-read_front.ensures.front told)) (c.begins_with.ensures.yes c.if-begins_with.true)

pub returns-else-begins_with-clause-changed_at : goal.returns-else-begins_with-clause-changed_at
returns-else-begins_with-clause-changed_at g c told is begins =
    let same = first_32 c.args.header.length _ _ c.requires.whole (c.in_ok-read_front.ensures.front told) in
    true≢false (sym (c.begins_with.ensures.no (subst (λ (l : List ℕ). BeginsWith l c.args.header) (sym same) begins)) ∙ c.if-begins_with.false)
