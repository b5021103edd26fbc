use Rattle.std.proofs.Common.{rules, ◌∷◌, Some, sym, ap, ◌∙◌}
use Rattle.atomic_table.specs.Table.{rest}
use Rattle.shards.proofs.shards.Shards.try_enter.Goals as goal

pub exchange-requires : goal.exchange-requires
exchange-requires g c = let got = c.try_word-word.ensures.free c.if-word-eq0.true in (search rules, (Some got.0, ap (λ m. m.1) got.1 ∙ ap (λ cs. (c.args.shard, Some got.0) ∷ rest cs) (sym (ap (λ m. m.1) got.1))))
