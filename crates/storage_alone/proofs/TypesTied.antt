-- Each image has the types that channel 0 keeps, or those with one that was tried in vain.
use Rattle.std.proofs.Common.{◌≡◌, ◌⊎◌, ℕ, IsSome, IsSomeAnd, IfSome, List, [], ◌∷◌, ◌++◌, Option, Some, None, sym, ap, subst, ◌∙◌, inl, inr}
use Rattle.gated_log.specs.Log.{IsLogOf, payloads_of}
use Rattle.gated_log.specs.State.{LogState}
use Rattle.gated_log.proofs.Payloads.{log_payloads}
use Rattle.core_steps.specs.Told.{Tried, TriedPart, TriedType}
use Rattle.graph_model.specs.declared.entity.Record.{Record}
use Rattle.type_desc.specs.declared.desc.TypeDesc.{TypeDesc}
use Rattle.type_dictionary.specs.Records.{records_from}
use Rattle.channel.specs.Core.{types_kept}
use Rattle.channel.specs.Images.{Image}
use Rattle.channel.specs.Left.{HoldsOrTried, HoldsTried}
use Rattle.channel.specs.OnDisk.{HoldsChannel, HoldsPart}
use Rattle.channel.specs.State.{ChannelState}
use Rattle.recovery.specs.Images.{types_header}
use Rattle.recovery.specs.Stored.{HasTypes}
use Rattle.storage_alone.specs.Tied.{AreTypes, IsRightText, KeepsTypes}

-- a log of the records of types
has_types : (n : ℕ) (image : Image) (types : List TypeDesc) (records : List (List ℕ)) (o : Option LogState) → AreTypes types → records ≡ records_from 16 types
    → IsSomeAnd o (λ log. log.header ≡ types_header n) → IfSome o (λ log. IsLogOf log.header records (image 1)) → HasTypes n image types
has_types n image types records None are is header log = absurd header
has_types n image types records (Some log) are is header of =
    let there = log_payloads log.header records (image 1) of in record {
      file = inr (subst (λ (h : List ℕ). IsLogOf h (payloads_of (image 1)) (image 1)) header (subst (λ (ps : List (List ℕ)). IsLogOf log.header ps (image 1)) (sym there) of));
      few = are.few;
      recorded = are.recorded;
      spelled = there ∙ is;
    }

module _ {D : Type 0} (reads : D → ℕ → List ℕ) where
  tried_types : (n : ℕ) (kept tried : List TypeDesc) (c : ChannelState D) (image : Image) → KeepsTypes reads n kept tried c → (t : Option Tried)
      → IsRightText t kept tried → HoldsTried reads c t image → HasTypes n image kept ⊎ HasTypes n image tried
  tried_types n kept tried c image keeps None right holds = absurd holds
  tried_types n kept tried c image keeps (Some (TriedPart number next_id)) right holds = with_part c.prepared holds
    where
      with_part : (p : Option (List Record)) → IsSomeAnd p (λ part. HoldsPart reads c number next_id part image) → HasTypes n image kept ⊎ HasTypes n image tried
      with_part None has = absurd has
      with_part (Some part) has = inl (has_types n image kept (types_kept reads c) c.types keeps.kept_are keeps.records keeps.log has.types)
  tried_types n kept tried c image keeps (Some (TriedType text)) right holds =
      inr (has_types n image tried (types_kept reads c ++ text ∷ []) c.types keeps.tried_are (ap (λ (rs : List (List ℕ)). rs ++ text ∷ []) keeps.records ∙ right) keeps.log holds.types)

  pub types_image : (n : ℕ) (kept tried : List TypeDesc) (c : ChannelState D) (image : Image) → KeepsTypes reads n kept tried c → HoldsOrTried reads c image
      → HasTypes n image kept ⊎ HasTypes n image tried
  types_image n kept tried c image keeps (inl holds) = inl (has_types n image kept (types_kept reads c) c.types keeps.kept_are keeps.records keeps.log holds.types)
  types_image n kept tried c image keeps (inr holds) = tried_types n kept tried c image keeps c.tried keeps.text holds

  some_log : (n : ℕ) (o : Option LogState) → IsSome o → IfSome o (λ log. log.header ≡ types_header n) → IsSomeAnd o (λ log. log.header ≡ types_header n)
  some_log n None is header = absurd cc
  some_log n (Some log) is header = header

  kept_records : (kept : List TypeDesc) (n : ℕ) (records : List (List ℕ)) (file : List ℕ) (o : Option LogState) → IsSomeAnd o (λ log. log.header ≡ types_header n)
      → IfSome o (λ log. IsLogOf log.header records file) → payloads_of file ≡ records_from 16 kept → records ≡ records_from 16 kept
  kept_records kept n records file None header of spelled = absurd header
  kept_records kept n records file (Some log) header of spelled = sym (log_payloads log.header records file of) ∙ spelled

  -- what channel 0 keeps, where what is read has these types
  pub types_kept_here : (n : ℕ) (kept : List TypeDesc) (c : ChannelState D) → IsSome c.types → IfSome c.types (λ log. log.header ≡ types_header n) → c.tried ≡ None
      → HoldsChannel reads c (reads c.files.disk) → HasTypes n (reads c.files.disk) kept → KeepsTypes reads n kept kept c
  types_kept_here n kept c is header none holds has = let log = some_log n c.types is header in record {
    log = log;
    records = kept_records kept n (types_kept reads c) (reads c.files.disk 1) c.types log holds.types has.spelled;
    text = subst (λ (t : Option Tried). IsRightText t kept kept) (sym none) tt;
    kept_are = record { few = has.few; recorded = has.recorded };
    tried_are = record { few = has.few; recorded = has.recorded };
  }
