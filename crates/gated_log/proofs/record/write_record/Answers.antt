-- Three writes, one behind the other, leave what stands before them.
use Rattle.std.proofs.Common.{◌≡◌, ◌+◌, [], ◌∷◌, ◌++◌, length, ap, subst, arith, rules, length-append}
use Rattle.std.specs.Int.{w32, to_le_bytes}
use Rattle.gated_log.specs.Log.{StandsAt}
use Rattle.gated_log.proofs.Steps.{follows_torn, follows_on, stands, stands_on}
use Rattle.gated_log.proofs.record.write_record.Goals as goal

pub returns-in_err-write-2-clause-stop : goal.returns-in_err-write-2-clause-stop
returns-in_err-write-2-clause-stop g c told =
    let first = follows_torn c.args.at c.args.at _ _ _ (omega arith) (c.write.ensures.stop told) in
    let second = follows_torn c.args.at (c.args.at + 4) _ _ _ (omega arith) (c.write-2.ensures.stop told) in
    follows_on c.args.at _ _ _ first second

pub returns-in_err-write-3-clause-stop : goal.returns-in_err-write-3-clause-stop
returns-in_err-write-3-clause-stop g c told =
    let first = follows_torn c.args.at c.args.at _ _ _ (omega arith) (c.write.ensures.stop told) in
    let second = follows_torn c.args.at (c.args.at + 4) _ _ _ (omega arith) (c.write-2.ensures.stop told) in
    let third = follows_torn c.args.at (c.args.at + 4 + length c.args.payload.now) _ _ _ (omega arith) (c.write-3.ensures.stop told) in
    follows_on c.args.at _ _ _ (follows_on c.args.at _ _ _ first second) third

pub returns-clause-written : goal.returns-clause-written
returns-clause-written g c told =
    let within = c.requires.within told in
    let size = c.write_u32_at.new.bytes in
    let is : size ≡ to_le_bytes w32 (length c.args.payload.now) = search rules in
    let first = stands c.args.at size _ _ (c.in_ok-write.ensures.written told) in
    let second = stands_on c.args.at (c.args.at + 4) size c.args.payload.now _ _ _ within (omega (arith, ap length is)) first (c.in_ok-write-2.ensures.written told) in
    let third = stands_on c.args.at (c.args.at + 4 + length c.args.payload.now) (size ++ c.args.payload.now) (0 ∷ []) _ _ _ within (omega (arith, ap length is, length-append size c.args.payload.now)) second (c.in_ok-write-3.ensures.written told) in
    subst (λ l. StandsAt c.args.at ((l ++ c.args.payload.now) ++ 0 ∷ []) (g.D.Disk.reads c.args.disk.now c.args.file) (g.D.Disk.reads c.write-3.new.self c.args.file)) is third

pub returns-clause-stop : goal.returns-clause-stop
returns-clause-stop g c told =
    let first = follows_torn c.args.at c.args.at _ _ _ (omega arith) (c.write.ensures.stop told) in
    let second = follows_torn c.args.at (c.args.at + 4) _ _ _ (omega arith) (c.write-2.ensures.stop told) in
    let third = follows_torn c.args.at (c.args.at + 4 + length c.args.payload.now) _ _ _ (omega arith) (c.write-3.ensures.stop told) in
    follows_on c.args.at _ _ _ (follows_on c.args.at _ _ _ first second) third
