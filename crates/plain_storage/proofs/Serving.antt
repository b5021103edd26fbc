-- What images hold once an ask is served, and what is kept beside them.
use Rattle.std.proofs.Common.{⊎_elim, inl, inr, ◌⊎◌, ◌≡◌, ◌≢◌, ◌≤◌, ◌++◌, [], ◌∷◌, ℕ, Bool, IsTrue, List, ap, sym, subst, ◌∙◌, arith, length-append}
use Rattle.store_io.specs.Disk.{OthersStay}
use Rattle.gated_log.specs.Log.{Each}
use Rattle.gated_log.specs.State.{LogState}
use Rattle.graph_model.specs.Graph.{put_all}
use Rattle.graph_model.specs.declared.entity.StoreOp.{StoreOp}
use Rattle.graph_model.proofs.Graphs.{after_append}
use Rattle.type_desc.specs.declared.desc.TypeDesc.{TypeDesc}
use Rattle.type_dictionary.specs.Records.{IsNextRecord}
use Rattle.plain_storage.specs.Held.{IsPlainStored, PlainHeld}
use Rattle.plain_storage.specs.Images.{AreClean, EachPair}
use Rattle.plain_storage.specs.Keeping.{HoldsEither, IsWithStore, IsWithType, Keeps, Plain, held_in}
use Rattle.plain_storage.specs.Logs.{IsOpen}
use Rattle.plain_storage.specs.Stores.{HoldsStores, plain_header}
use Rattle.graph_model.specs.Stores.{next_after}
use Rattle.plain_storage.specs.Types.{AreTypesHeld, types_header}
use Rattle.plain_storage.proofs.StoresKept.{last_next_id-push}
use Rattle.plain_storage.proofs.TypesKept.{sound_with_type}

-- ---- one store more

-- images of the same stores and the same types hold the same
held_again : (f0 f1 image0 image1 : List ℕ) (held : PlainHeld) (s : IsPlainStored f0 f1 held) → HoldsStores image0 s.stores → AreTypesHeld image1 held.types → IsPlainStored image0 image1 held
held_again f0 f1 image0 image1 held s stores types = record {
  types = types;
  stores = s.stores;
  log = stores;
  graph = s.graph;
  number = s.number;
  next_id = s.next_id;
  sound = s.sound;
}

-- images of one store more hold what is there with it
held_with_store : (f0 f1 image0 image1 : List ℕ) (held next : PlainHeld) (op : StoreOp) (s : IsPlainStored f0 f1 held) → HoldsStores image0 (s.stores ++ op ∷ []) → AreTypesHeld image1 held.types
    → IsWithStore op held next → IsPlainStored image0 image1 next
held_with_store f0 f1 image0 image1 held next op s stores types with = subst (λ (n : PlainHeld). IsPlainStored image0 image1 n) (sym with.next_is) (record {
  types = types;
  stores = s.stores ++ op ∷ [];
  log = stores;
  graph = ap (put_all op.records) s.graph ∙ sym (after_append [] s.stores op);
  number = omega (arith, s.number, length-append s.stores (op ∷ []));
  next_id = sym (last_next_id-push 1024 s.stores op);
  sound = with.sound;
})

-- images of one type more hold what is there with it
held_with_type : (f0 f1 image0 image1 text : List ℕ) (held next : PlainHeld) (s : IsPlainStored f0 f1 held) (with : IsWithType text held next) → HoldsStores image0 s.stores
    → AreTypesHeld image1 (held.types ++ with.desc ∷ []) → IsPlainStored image0 image1 next
held_with_type f0 f1 image0 image1 text held next s with stores types = subst (λ (n : PlainHeld). IsPlainStored image0 image1 n) (sym with.next_is) (record {
  types = types;
  stores = s.stores;
  log = stores;
  graph = s.graph;
  number = s.number;
  next_id = s.next_id;
  sound = sound_with_type held.types (with.desc ∷ []) held.graph s.sound;
})

one-zero : ◌≢◌ {A = ℕ} 1 0
one-zero is = omega arith

zero-one : ◌≢◌ {A = ℕ} 0 1
zero-one is = omega arith

module _ (r r' : ℕ → List ℕ) (lv lv' : ℕ → List ℕ → Bool) where
  -- ---- where file 0 was written

  module _ (others : OthersStay 0 r r' lv lv') (op : StoreOp) where
    pub store_keeps : (p q : Plain) (types next_types : List TypeDesc) → Keeps p types r → IsOpen 0 plain_header q.stores_log (r' 0) → q.types_log ≡ p.types_log → p.next_id ≤ op.next_id
        → ((stores : List StoreOp) → HoldsStores (r 0) stores → next_after 1024 stores ≤ op.next_id → HoldsStores (r' 0) (stores ++ op ∷ []))
        → IsWithStore op (held_in p types) (held_in q next_types) → Keeps q next_types r'
    store_keeps p q types next_types keeps open_log same no_less kept with =
        let reads_types = others.reads 1 one-zero in
        let stored = keeps.stored in
        record {
          are_open = record {
            stores = open_log;
            types = subst (λ (l : LogState). IsOpen 1 types_header l (r' 1)) (sym same) (subst (λ (f : List ℕ). IsOpen 1 types_header p.types_log f) (sym reads_types) keeps.are_open.types);
          };
          stored = held_with_store (r 0) (r 1) (r' 0) (r' 1) (held_in p types) (held_in q next_types) op stored
              (kept stored.stores stored.log (omega (arith, stored.next_id, no_less)))
              (subst (λ (f : List ℕ). AreTypesHeld f types) (sym reads_types) stored.types) with;
        }

    pub store_stops : (held next : PlainHeld) → AreClean r lv → IsPlainStored (r 0) (r 1) held → held.next_id ≤ op.next_id
        → ((stores : List StoreOp) → HoldsStores (r 0) stores → next_after 1024 stores ≤ op.next_id → Each (lv' 0) (λ image. HoldsStores image stores ⊎ HoldsStores image (stores ++ op ∷ [])))
        → IsWithStore op held next → EachPair lv' (HoldsEither held next)
    store_stops held next clean stored no_less stop with image0 image1 left0 left1 =
        let is : image1 ≡ r 1 = clean.types image1 (subst (λ (l : List ℕ → Bool). IsTrue (l image1)) (others.leaves 1 one-zero) left1) in
        let types = subst (λ (f : List ℕ). AreTypesHeld f held.types) (sym is) stored.types in
        ⊎_elim
        (λ stores. inl (held_again (r 0) (r 1) image0 image1 held stored stores types))
        (λ stores. inr (held_with_store (r 0) (r 1) image0 image1 held next op stored stores types with))
        (stop stored.stores stored.log (omega (arith, stored.next_id, no_less)) image0 left0)

  -- ---- where file 1 was written

  module _ (others : OthersStay 1 r r' lv lv') (text : List ℕ) where
    pub type_keeps : (p q : Plain) (types next_types : List TypeDesc) → Keeps p types r → IsOpen 1 types_header q.types_log (r' 1) → q.stores_log ≡ p.stores_log
        → ((desc : TypeDesc) → AreTypesHeld (r 1) types → IsNextRecord types text desc → AreTypesHeld (r' 1) (types ++ desc ∷ []))
        → IsWithType text (held_in p types) (held_in q next_types) → Keeps q next_types r'
    type_keeps p q types next_types keeps open_log same kept with =
        let reads_stores = others.reads 0 zero-one in
        let stored = keeps.stored in
        record {
          are_open = record {
            stores = subst (λ (l : LogState). IsOpen 0 plain_header l (r' 0)) (sym same) (subst (λ (f : List ℕ). IsOpen 0 plain_header p.stores_log f) (sym reads_stores) keeps.are_open.stores);
            types = open_log;
          };
          stored = held_with_type (r 0) (r 1) (r' 0) (r' 1) text (held_in p types) (held_in q next_types) stored with
              (subst (λ (f : List ℕ). HoldsStores f stored.stores) (sym reads_stores) stored.log)
              (kept with.desc stored.types with.record_);
        }

    pub type_stops : (held next : PlainHeld) → AreClean r lv → IsPlainStored (r 0) (r 1) held
        → ((desc : TypeDesc) → AreTypesHeld (r 1) held.types → IsNextRecord held.types text desc → Each (lv' 1) (λ image. AreTypesHeld image held.types ⊎ AreTypesHeld image (held.types ++ desc ∷ [])))
        → IsWithType text held next → EachPair lv' (HoldsEither held next)
    type_stops held next clean stored stop with image0 image1 left0 left1 =
        let is : image0 ≡ r 0 = clean.stores image0 (subst (λ (l : List ℕ → Bool). IsTrue (l image0)) (others.leaves 0 zero-one) left0) in
        let stores = subst (λ (f : List ℕ). HoldsStores f stored.stores) (sym is) stored.log in
        ⊎_elim
        (λ types. inl (held_again (r 0) (r 1) image0 image1 held stored stores types))
        (λ types. inr (held_with_type (r 0) (r 1) image0 image1 text held next stored with stores types))
        (stop with.desc stored.types with.record_ image1 left1)
