-- The only disk of a list.
use Rattle.std.proofs.Common.{◌≡◌, [], ◌∷◌, List, slice_index_or, slice_set, ap, sym, subst, ◌∙◌}
use Rattle.store_run.specs.Top.{OfOneDisk}

pub disk_before : {D : Type 0} (disks : List D) (old disk : D) → disks ≡ old ∷ [] → disk ≡ slice_index_or disks 0 disk → disk ≡ old
disk_before disks old disk one is = is ∙ ap (λ l. slice_index_or l 0 disk) one

pub disk_after : {D : Type 0} (disks : List D) (old new disk : D) → disks ≡ old ∷ [] → slice_set disks 0 disk ≡ new ∷ [] → disk ≡ new
disk_after disks old new disk one is =
    let both : disk ∷ [] ≡ new ∷ [] = sym (ap (λ l. slice_set l 0 disk) one) ∙ is in
    cc

-- what holds of the first disk, changed
pub of_changed : {D : Type 0} (disks : List D) (disk now : D) (P : D → D → Type 0) → disk ≡ slice_index_or disks 0 disk → P disk now → OfOneDisk disks (slice_set disks 0 now) P
of_changed disks disk now P is holds old new before after = subst (P old) (disk_after disks old new now before after) (subst (λ d. P d now) (disk_before disks old disk before is) holds)

-- what holds of a disk that stays
pub of_same : {D : Type 0} (disks : List D) (P : D → D → Type 0) → ((disk : D) → P disk disk) → OfOneDisk disks disks P
of_same disks P holds old new before after =
    let same : old ∷ [] ≡ new ∷ [] = sym before ∙ after in
    let is : old ≡ new = cc in
    subst (P old) is (holds old)
