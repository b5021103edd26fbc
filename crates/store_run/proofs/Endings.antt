-- How a run can end.
use Rattle.std.proofs.Common.{inl, inr, ⊎_elim, ◌≡◌, ◌⊎◌, ◌∙◌, ℕ, sym, refl}
use Rattle.store_run.specs.declared.status.Cause.{Cause}
use Rattle.store_run.specs.declared.status.Cause.TheVariants.{Header}
use Rattle.store_run.specs.declared.status.Status.{Status}
use Rattle.store_run.specs.declared.status.Status.TheVariants.{Done, Words, Damaged, ReadFault, WriteFault, StorageFault, NoMemory, InputTooLong, Full}

pub ends_well : (status : Status) → (status ≡ Words → ⊥) → ((channel : ℕ) (cause : Cause) → status ≡ Damaged channel cause → ⊥) → (status ≡ ReadFault → ⊥) → (status ≡ WriteFault → ⊥)
    → (status ≡ StorageFault → ⊥) → (status ≡ InputTooLong → ⊥) → (status ≡ Full → ⊥) → (status ≡ Done) ⊎ (status ≡ NoMemory)
ends_well Done words damaged read write storage long full = inl refl
ends_well Words words damaged read write storage long full = absurd (words refl)
ends_well (Damaged channel cause) words damaged read write storage long full = absurd (damaged channel cause refl)
ends_well ReadFault words damaged read write storage long full = absurd (read refl)
ends_well WriteFault words damaged read write storage long full = absurd (write refl)
ends_well StorageFault words damaged read write storage long full = absurd (storage refl)
ends_well NoMemory words damaged read write storage long full = inr refl
ends_well InputTooLong words damaged read write storage long full = absurd (long refl)
ends_well Full words damaged read write storage long full = absurd (full refl)

pub ends_long : (status : Status) → (status ≡ Words → ⊥) → ((channel : ℕ) (cause : Cause) → status ≡ Damaged channel cause → ⊥) → (status ≡ ReadFault → ⊥) → (status ≡ WriteFault → ⊥)
    → (status ≡ StorageFault → ⊥) → (status ≡ Done → ⊥) → (status ≡ Full → ⊥) → (status ≡ InputTooLong) ⊎ (status ≡ NoMemory)
ends_long Done words damaged read write storage done full = absurd (done refl)
ends_long Words words damaged read write storage done full = absurd (words refl)
ends_long (Damaged channel cause) words damaged read write storage done full = absurd (damaged channel cause refl)
ends_long ReadFault words damaged read write storage done full = absurd (read refl)
ends_long WriteFault words damaged read write storage done full = absurd (write refl)
ends_long StorageFault words damaged read write storage done full = absurd (storage refl)
ends_long NoMemory words damaged read write storage done full = inr refl
ends_long InputTooLong words damaged read write storage done full = inl refl
ends_long Full words damaged read write storage done full = absurd (full refl)

-- a disk is damaged in its header, or the sink fails
pub damaged_is : (status : Status) (channel : ℕ) (cause : Cause) → (status ≡ Damaged 0 Header) ⊎ (status ≡ WriteFault) → status ≡ Damaged channel cause → (channel ≡ 0) × (cause ≡ Header)
damaged_is status channel cause ends is =
    ⊎_elim
    (λ damaged. let same : Damaged channel cause ≡ Damaged 0 Header = sym is ∙ damaged in (cc, cc))
    (λ failed. let same : Damaged channel cause ≡ WriteFault = sym is ∙ failed in cc)
    ends
