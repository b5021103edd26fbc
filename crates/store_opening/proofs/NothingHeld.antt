-- Images that are damaged hold nothing.
use Rattle.std.proofs.Common.{◌≡◌, ◌≢◌, ℕ, ◌≤◌, ◌<◌, false, List, length, Option, Some, None, ap, subst, arith}
use Rattle.std.specs.Prelude.{is_some}
use Rattle.std.proofs.lemmas.List.Elements.{All-contains}
use Rattle.std.proofs.lemmas.Option.{get_or_from_slice_get, slice_get_within}
use Rattle.graph_model.specs.declared.entity.Entity.{Entity}
use Rattle.type_desc.specs.declared.desc.TypeDesc.{TypeDesc}
use Rattle.store_agreement.specs.Agreement.{Agrees, AllAgree, IsFirstApart, IsLeast, numbers_of}
use Rattle.store_agreement.specs.declared.agreement.Disagree.{Disagree as AnyDisagree}
use Rattle.store_agreement.specs.declared.agreement.Last.{Last}
use Rattle.channel.specs.ChunkRule.{HasRightChunks}
use Rattle.channel.specs.Images.{HasLog, Image}
use Rattle.recovery.specs.Images.{IsNextId, image_at, lasts_of}
use Rattle.recovery.specs.Reach.{IsFromRoot}
use Rattle.recovery.specs.Stored.{HasKnownForm, HasTypes, IsFault, tables_at}
use Rattle.store_opening.specs.Damage.{IsChunkDamage, IsDamage, IsDictionaryDamage, IsFirstWrongLog}
use Rattle.store_opening.specs.declared.fault.Cause.{Cause}
use Rattle.store_opening.specs.declared.fault.Cause.TheVariants.{Header, Log, Entry as EntryCause, Order, Disagree, TypesHeader, TypesLog, TypesRecord, Chunk, Missing, NoType, Form, Changed}
use Rattle.store_opening.proofs.WrongLogs.{wrong_dictionary, wrong_log}

one_least : (m k : ℕ) (numbers : List ℕ) → IsLeast m numbers → IsLeast k numbers → m ≡ k
one_least m k numbers h l =
    let a : m ≤ k = All-contains (λ x. m ≤ x) numbers k h.at_most l.one in
    let b : k ≤ m = All-contains (λ x. k ≤ x) numbers m l.at_most h.one in
    omega arith

-- a channel that is apart agrees with no store
apart : (d : AnyDisagree) (lasts : List Last) (k : ℕ) → IsFirstApart d lasts → AllAgree k lasts → ⊥
apart d lasts k is agreed =
    let same : k ≡ is.m = one_least k is.m (numbers_of lasts) agreed.least is.least in
    let within = slice_get_within lasts d.channel is.last is.there in
    let here : Agrees k is.last = subst (Agrees k) (get_or_from_slice_get lasts d.channel is.last is.last is.there) (agreed.each d.channel is.last within) in
    is.apart (subst (λ (m : ℕ). Agrees m is.last) same here)

absent : {o : Option Entity} → o ≡ None → is_some o ≡ false
absent e = ap (λ (o : Option Entity). is_some o) e

unknown : {o : Option TypeDesc} {d : TypeDesc} → o ≡ None → o ≡ Some d → ⊥
unknown n s = cc

module _ (images : List Image)
    (log : (j : ℕ) → j < length images → (HasLog (length images) j (image_at images j) → ⊥) → IsFault images)
    (agreement : ((m : ℕ) → AllAgree m (lasts_of images) → ⊥) → IsFault images)
    (dictionary : ((types : List TypeDesc) → HasTypes (length images) (image_at images 0) types → ⊥) → IsFault images)
    (chunks : (m : ℕ) → AllAgree m (lasts_of images) → (d j : ℕ) → IsNextId images m d → j < length images → (HasRightChunks (length images) j d m (image_at images j) → ⊥) → IsFault images)
    (missing : (m : ℕ) → AllAgree m (lasts_of images) → (x : ℕ) → IsFromRoot (tables_at m images) x → x ≢ 1 → is_some (tables_at m images x) ≡ false → IsFault images)
    (form : (m : ℕ) → AllAgree m (lasts_of images) → (types : List TypeDesc) (x : ℕ) (e : Entity) → HasTypes (length images) (image_at images 0) types → IsFromRoot (tables_at m images) x
    → tables_at m images x ≡ Some e → (HasKnownForm types x e → ⊥) → IsFault images) where
  in_log : (j : ℕ) (cause : Cause) → IsFirstWrongLog images j cause → IsFault images
  in_log j cause is = log j is.within (λ has. wrong_log (length images) j (image_at images j) cause is.wrong has)

  in_dictionary : (j : ℕ) (cause : Cause) → IsDictionaryDamage images j cause → IsFault images
  in_dictionary j cause is = dictionary (λ types has. wrong_dictionary (length images) (image_at images 0) cause types is.wrong has)

  in_chunk : (j : ℕ) → IsChunkDamage images j → IsFault images
  in_chunk j is = chunks is.m is.read.agree.agreed is.next j is.read.next_id is.first.within is.first.wrong

  pub damage_holds_nothing : (j : ℕ) (cause : Cause) → IsDamage images j cause → IsFault images
  damage_holds_nothing j Header is = in_log j Header is
  damage_holds_nothing j (Log at) is = in_log j (Log at) is
  damage_holds_nothing j (EntryCause number) is = in_log j (EntryCause number) is
  damage_holds_nothing j (Order number) is = in_log j (Order number) is
  damage_holds_nothing j (Disagree number) is = agreement (λ m agreed. apart record { channel = j; number = number } (lasts_of images) m is.first agreed)
  damage_holds_nothing j TypesHeader is = in_dictionary j TypesHeader is
  damage_holds_nothing j (TypesLog at) is = in_dictionary j (TypesLog at) is
  damage_holds_nothing j (TypesRecord number) is = in_dictionary j (TypesRecord number) is
  damage_holds_nothing j (Chunk file at) is = in_chunk j is
  damage_holds_nothing j (Missing id) is = missing is.m is.read.agree.agreed id is.here.reached is.here.wrong.not_root (absent is.here.wrong.none)
  damage_holds_nothing j (NoType id) is =
      form is.m is.read.agree.agreed is.types id is.here.wrong.entity is.read.types_are is.here.reached is.here.wrong.there (λ known. unknown is.here.wrong.unknown known.known)
  damage_holds_nothing j (Form id) is = form is.m is.read.agree.agreed is.types id is.here.wrong.entity is.read.types_are is.here.reached is.here.wrong.there is.here.wrong.wrong
  damage_holds_nothing j (Changed id) is = absurd is
