-- All places from the cut on are open.
use Rattle.std.proofs.Common.{◌≡◌, ◌+◌, ◌-◌, ◌++◌, ◌∙◌, ap, [], List, ℕ, Option, None, take, drop, sym, arith, take-append-drop}
use Rattle.std.proofs.lemmas.List.{append-nil}
use Rattle.std.proofs.lemmas.List.Edits.{fill_from_more}
use lib.ListN.{set}
use lib.Seq.{paste}
use Rattle.store_io.proofs.Images.{opened_rest}
use Rattle.store_io.proofs.places.open_rest.Goals as goal

none_filled : (kept : List (Option ℕ)) (n : ℕ) → kept ≡ paste kept n [] 0
none_filled kept n =
    let here : n + 0 ≡ n = omega arith in
    sym (ap (λ (m : ℕ). take n kept ++ [] ++ drop m kept) here ∙ ap (λ (l : List (Option ℕ)). l ++ drop n kept) (append-nil (take n kept)) ∙ take-append-drop n kept)

pub loop-i-init : goal.loop-i-init
loop-i-init c = record { size = omega arith; filled = none_filled c.args.kept.now.items c.args.len }

pub loop-i-preserved : goal.loop-i-preserved
loop-i-preserved c = record {
  size = c.loop-i.invariant.size;
  filled = ap (λ l. set l (c.args.len + c.loop-i.i) None) c.loop-i.invariant.filled ∙ fill_from_more c.args.kept.now.items c.args.len c.loop-i.i None (omega arith);
}

pub returns : goal.returns
returns c =
    let all : c.loop-i.i ≡ c.len.result - c.args.len = omega arith in
    c.loop-i.invariant.filled ∙ opened_rest c.args.len c.loop-i.i c.args.kept.now.items (omega arith)
