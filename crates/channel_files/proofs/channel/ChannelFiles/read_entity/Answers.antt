use Rattle.std.proofs.Common.{◌≡◌, true, take, IfErr, refl, sym, subst, arith, rules}
use Rattle.transactions_file.specs.Files.{is_live}
use Rattle.data_file.specs.Headers.{BeginsWith}
use Rattle.channel_files.specs.Faults.{IsFaultOrChanged}
use Rattle.channel_files.proofs.Within.{live_small}
use Rattle.channel_files.proofs.channel.ChannelFiles.read_entity.Goals as goal
use Rattle.channel_files.proofs.channel.ChannelFiles.read_entity.Goals.{in-Ok, in-Err-Fault, in-Err-Changed}

pub overflow_cast-file : goal.overflow_cast-file
overflow_cast-file g c =
    let live = subst (λ v. is_live v.transactions.inventory.state.files c.args.file ≡ true) (sym c.self.view_is) c.requires.live in
    omega (arith, live_small c.self.inside.transactions.inventory.state c.inventory-inventory.ensures.sound c.args.file live)

pub returns-clause-changed : goal.returns-clause-changed
returns-clause-changed g c = elim c.match-read_entity.branch [
  | in-Ok w ↦ subst (λ r. IfErr r (IsFaultOrChanged (λ place. (place ≡ c.args.at) × (¬ BeginsWith (take 32 c.read_entity.new.out) c.args.header)))) (sym w.result-is) tt
  | in-Err-Fault w ↦ subst (λ r. IfErr r (IsFaultOrChanged (λ place. (place ≡ c.args.at) × (¬ BeginsWith (take 32 c.read_entity.new.out) c.args.header)))) (sym w.result-is) tt
  | in-Err-Changed w ↦
      subst (λ r. IfErr r (IsFaultOrChanged (λ place. (place ≡ c.args.at) × (¬ BeginsWith (take 32 c.read_entity.new.out) c.args.header)))) (sym w.result-is)
      (refl, c.read_entity.ensures.changed (search rules))
]
