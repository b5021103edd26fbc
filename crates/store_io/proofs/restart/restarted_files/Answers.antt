-- One more file has its new one.
use Rattle.std.proofs.Common.{◌≡◌, ◌∙◌, ◌+◌, ◌++◌, ◌∷◌, [], take, sym, ap, subst, arith, rules}
use Rattle.std.proofs.lemmas.List.{take_more}
use Rattle.store_io.specs.Restart.{AllRestart}
use Rattle.store_io.proofs.Restarts.{restart_push}
use Rattle.store_io.proofs.restart.restarted_files.Goals as goal

pub loop-m-preserved : goal.loop-m-preserved
loop-m-preserved c =
    let files = c.args.files.now in
    let m = c.m-item.result in
    let n = c.in_ok-restarted.field-0 in
    let more : take (c.loop-m.m-index + 1) files ≡ take c.loop-m.m-index files ++ m ∷ [] =
    take_more files c.loop-m.m-index m (omega arith) ∙ ap (λ x. take c.loop-m.m-index files ++ x ∷ []) (sym c.m-item.is) in
    let pushed : c.push.new.self.items ≡ c.loop-m.new.items ++ n ∷ [] = search rules in
    let all = restart_push c.args.pick (take c.loop-m.m-index files) c.loop-m.new.items m n c.loop-m.invariant c.in_ok-restarted.ensures in
    subst (λ olds. AllRestart c.args.pick olds c.push.new.self.items) (sym more)
    (subst (λ news. AllRestart c.args.pick (take c.loop-m.m-index files ++ m ∷ []) news) (sym pushed) all)
