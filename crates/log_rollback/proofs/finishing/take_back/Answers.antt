-- The last store is dropped, where it is the one behind that which all have.
use Rattle.std.proofs.Common.{◌∙◌, ap}
use Rattle.transactions_file.specs.Inventory.{Held}
use Rattle.log_rollback.proofs.TakingBack.{one_ahead}
use Rattle.log_rollback.proofs.finishing.take_back.Goals as goal

pub returns-in_err-drop_last-clause-left : goal.returns-in_err-drop_last-clause-left
returns-in_err-drop_last-clause-left g c tells =
    let m = c.args.common in
    let k = c.last_store.result in
    c.drop_last.ensures.left tells m (one_ahead m k c.args.transactions.inventory.state c.requires.agrees (c.last_store.ensures ∙ ap (λ (h : Held). h.state.last) c.inventory.ensures.inventory) c.if-last_store-common.false)

pub returns-clause-open_ : goal.returns-clause-open_
returns-clause-open_ g c tells =
    let m = c.args.common in
    let k = c.last_store.result in
    c.in_ok-drop_last.ensures.open_ tells m (one_ahead m k c.args.transactions.inventory.state c.requires.agrees (c.last_store.ensures ∙ ap (λ (h : Held). h.state.last) c.inventory.ensures.inventory) c.if-last_store-common.false)

pub returns-clause-finished : goal.returns-clause-finished
returns-clause-finished g c tells =
    let m = c.args.common in
    let k = c.last_store.result in
    c.in_ok-drop_last.ensures.finished tells m (one_ahead m k c.args.transactions.inventory.state c.requires.agrees (c.last_store.ensures ∙ ap (λ (h : Held). h.state.last) c.inventory.ensures.inventory) c.if-last_store-common.false)

pub returns-clause-left : goal.returns-clause-left
returns-clause-left g c tells =
    let m = c.args.common in
    let k = c.last_store.result in
    c.drop_last.ensures.left tells m (one_ahead m k c.args.transactions.inventory.state c.requires.agrees (c.last_store.ensures ∙ ap (λ (h : Held). h.state.last) c.inventory.ensures.inventory) c.if-last_store-common.false)
