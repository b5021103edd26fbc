use Rattle.std.proofs.Common.{◌≡◌, Ok, sym, subst}
use Rattle.tx_entry.specs.Entries.{entry_of, spelling}
use Rattle.tx_entry.proofs.ReadAgain.{again-Creation, again-Store, again-Transfer, again-Truncation, again-Deletion}
use Rattle.tx_entry.proofs.write.write_entry.Goals as goal

pub returns-in-Creation-clause-read_again : goal.returns-in-Creation-clause-read_again
returns-in-Creation-clause-read_again c =
    let fit = c.put.ensures.fit in
    subst (λ e. entry_of (spelling e) ≡ Ok e) (sym c.in-Creation.is) (again-Creation _ (fit 0))

pub returns-in-Store-clause-read_again : goal.returns-in-Store-clause-read_again
returns-in-Store-clause-read_again c =
    let fit = c.put-in-Store.ensures.fit in
    subst (λ e. entry_of (spelling e) ≡ Ok e) (sym c.in-Store.is) (again-Store _ _ _ _ _ (fit 0) (fit 1) (fit 2) (fit 3) (fit 4))

pub returns-in-Transfer-clause-read_again : goal.returns-in-Transfer-clause-read_again
returns-in-Transfer-clause-read_again c =
    let fit = c.put-in-Transfer.ensures.fit in
    subst (λ e. entry_of (spelling e) ≡ Ok e) (sym c.in-Transfer.is) (again-Transfer _ _ _ _ (fit 0) (fit 1) (fit 2) (fit 3))

pub returns-in-Truncation-clause-read_again : goal.returns-in-Truncation-clause-read_again
returns-in-Truncation-clause-read_again c =
    let fit = c.put-in-Truncation.ensures.fit in
    subst (λ e. entry_of (spelling e) ≡ Ok e) (sym c.in-Truncation.is) (again-Truncation _ _ _ (fit 0) (fit 1) (fit 2))

pub returns-in-Deletion-clause-read_again : goal.returns-in-Deletion-clause-read_again
returns-in-Deletion-clause-read_again c =
    let fit = c.put-in-Deletion.ensures.fit in
    subst (λ e. entry_of (spelling e) ≡ Ok e) (sym c.in-Deletion.is) (again-Deletion _ (fit 0))
