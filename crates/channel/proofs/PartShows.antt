-- An image whose chunks are those of before and one of a part has that part.
use Rattle.std.proofs.Common.{◌≡◌, ℕ, ◌+◌, ◌*◌, ◌≤◌, ◌<◌, Bool, cond, List, [], ◌∷◌, ◌++◌, length, map, option_map, Option, Some, None, refl, sym, ap, ◌∙◌, subst, arith, append-nil}
use Rattle.std.specs.Prelude.{nat_le}
use Rattle.std.specs.List.{AllByRecursion, flat_map}
use Rattle.std.specs.Option.{option_or}
use Rattle.std.proofs.lemmas.Bool.{le-leb, lt-leb}
use Rattle.std.proofs.lemmas.List.Elements.{filter-append}
use Rattle.graph_model.specs.Graph.{entity_of, or_else}
use Rattle.graph_model.specs.Stores.{is_good_id}
use Rattle.graph_model.specs.declared.entity.Entity.{Entity}
use Rattle.graph_model.specs.declared.entity.Record.{Record}
use Rattle.core_steps.specs.Core.{is_home}
use Rattle.core_steps.proofs.ValidStores.{good_id_more}
use Rattle.entity_form.specs.declared.places.Header.{Header}
use Rattle.entity_form.proofs.Spellings.{length-entity_bytes}
use Rattle.channel_files.specs.declared.place.Place.{Place}
use Rattle.channel_files.specs.Chunks.{Chunk}
use Rattle.channel_files.specs.Heads.{chunk_of}
use Rattle.channel_files.specs.Shows.{Shows}
use Rattle.channel_files.specs.Table.{Occurrence, last_of, occurrences_of, table_at, up_to}
use Rattle.channel_files.specs.Whole.{header_of}
use Rattle.channel_files.proofs.Tables.{table_before, table_more}
use Rattle.data_file.specs.Chunks.{entities_of}
use Rattle.channel.specs.Entities.{chunk_for, entity_in}
use Rattle.channel.specs.Parts.{IsPart, IsRightRecord}
use Rattle.channel.proofs.Chunks.{chunk_entities, chunk_is_whole, last_in_chunk, occurrence_at}
use Rattle.channel.proofs.PartRows.{Spot, entity_of_spot, spot_of}
use Rattle.channel.proofs.Spelled.{entity_spelled, header_spelled, spelled}
use Rattle.channel.proofs.Stored.{spot_right}
use Rattle.channel.specs.Images.{Image, log_header}
use Rattle.channel.specs.ChunkRule.{AllUpTo, AreRightTo, IsOwn, IsRightChunk, KeepsRule}
use Rattle.channel.specs.Shown.{DiskTable, EndsAt, HasPart, ShowsAt, disk_in, with_part}
use Rattle.channel.proofs.FromShows.{before_from_shows, ends_from_shows}

-- THE RULE

record_keeps : (n j next : ℕ) (r : Record) → IsRightRecord r → IsOwn n j next r → KeepsRule n j next (spelled r)
record_keeps n j next r right own = let h = header_spelled r right in let size = length-entity_bytes (r.id, r.entity) in record {
  refs = subst (λ (t : Header). 32 + 8 * t.count ≤ length (spelled r)) (sym h) (omega arith);
  type_id = subst (λ (t : Header). 1 ≤ t.type_id) (sym h) right.type_id.0;
  own = ap (λ (t : Header). is_home n j t.id) h ∙ own.0;
  good = ap (λ (t : Header). is_good_id next t.id) h ∙ own.1;
}

records_keep : (n j next : ℕ) (rs : List Record) → AllByRecursion IsRightRecord rs → AllByRecursion (IsOwn n j next) rs → AllByRecursion (KeepsRule n j next) (map spelled rs)
records_keep n j next [] right own = tt
records_keep n j next (r ∷ rs) right own = (record_keeps n j next r right.0 own.0, records_keep n j next rs right.1 own.1)

pub part_right : (n j next : ℕ) (rs : List Record) → IsPart rs → AllByRecursion (IsOwn n j next) rs → IsRightChunk n j next (chunk_for rs)
part_right n j next rs part own = record {
  whole = chunk_is_whole rs part.entities;
  rule = subst (AllByRecursion (KeepsRule n j next)) (sym (chunk_entities rs part.entities)) (records_keep n j next rs part.entities own);
}

-- with a greater next id a chunk is right still
pub all_keep_more : (n j next more : ℕ) → next ≤ more → (es : List (List ℕ)) → AllByRecursion (KeepsRule n j next) es → AllByRecursion (KeepsRule n j more) es
all_keep_more n j next more le [] all = tt
all_keep_more n j next more le (e ∷ es) all = (
  record { refs = all.0.refs; type_id = all.0.type_id; own = all.0.own; good = good_id_more next more (header_of e).id le all.0.good },
  all_keep_more n j next more le es all.1,
)

all_right_more : (n j next more : ℕ) → next ≤ more → (cs : List Chunk) → AllByRecursion (λ (c : Chunk). IsRightChunk n j next c.bytes) cs
    → AllByRecursion (λ (c : Chunk). IsRightChunk n j more c.bytes) cs
all_right_more n j next more le [] all = tt
all_right_more n j next more le (c ∷ cs) all = (record { whole = all.0.whole; rule = all_keep_more n j next more le (entities_of c.bytes) all.0.rule }, all_right_more n j next more le cs all.1)

all_and_one : (P : Chunk → Type 0) (cs : List Chunk) (c : Chunk) → AllByRecursion P cs → P c → AllByRecursion P (cs ++ c ∷ [])
all_and_one P [] c all here = (here, tt)
all_and_one P (d ∷ cs) c all here = (all.0, all_and_one P cs c all.1 here)

-- UP TO A NUMBER

up_to_all : (m more : ℕ) (cs : List Chunk) → m ≤ more → AllUpTo m cs → up_to more cs ≡ cs
up_to_all m more [] le all = refl
up_to_all m more (c ∷ cs) le all = ap (λ (b : Bool). cond b (c ∷ up_to more cs) (up_to more cs)) (le-leb c.number more (omega (arith, all.0, le)))
    ∙ ap (λ (l : List Chunk). c ∷ l) (up_to_all m more cs le all.1)

pub up_to_before : (m : ℕ) (cs : List Chunk) (c : Chunk) → m < c.number → up_to m (cs ++ c ∷ []) ≡ up_to m cs
up_to_before m cs c l = filter-append (λ (d : Chunk). nat_le d.number m) cs (c ∷ [])
    ∙ (ap (λ (b : Bool). up_to m cs ++ cond b (c ∷ []) []) (lt-leb c.number m l) ∙ append-nil (up_to m cs))

up_to_more : (m : ℕ) (cs : List Chunk) (c : Chunk) → c.number ≤ m → up_to m (cs ++ c ∷ []) ≡ up_to m cs ++ c ∷ []
up_to_more m cs c l = filter-append (λ (d : Chunk). nat_le d.number m) cs (c ∷ [])
    ∙ ap (λ (b : Bool). up_to m cs ++ cond b (c ∷ []) []) (le-leb c.number m l)

-- THE TABLE

abbrev pub entity_in_it : Occurrence → Entity
entity_in_it o = entity_in o.bytes

-- the entities with the chunk of a part behind others are the part's over theirs
pub over : (m : ℕ) (cs : List Chunk) (place : Place) (rs : List Record) → IsPart rs → AllUpTo m cs → (x : ℕ)
    → option_map entity_in_it (table_at (m + 1) (cs ++ chunk_of (m + 1) place (chunk_for rs) ∷ []) x)
    ≡ or_else (entity_of rs x) (option_map entity_in_it (table_at m cs x))
over m cs place rs part all x = ap (option_map entity_in_it)
    (table_more (m + 1) cs (chunk_of (m + 1) place (chunk_for rs)) x (omega arith)
    ∙ (ap (λ (o : Option Occurrence). option_or o (table_at (m + 1) cs x)) (last_in_chunk (m + 1) place rs x part.entities part.ordered)
    ∙ ap (λ (l : List Chunk). option_or (option_map (occurrence_at place.file) (spot_of place.at rs x)) (last_of x (flat_map occurrences_of l)))
    (up_to_all m (m + 1) cs (omega arith) all ∙ sym (up_to_all m m cs (omega arith) all))))
    ∙ (by (spot_of place.at rs x) refl ∙ ap (λ (o : Option Entity). or_else o (option_map entity_in_it (table_at m cs x))) (sym (entity_of_spot place.at rs x)))
  where
    by : (o : Option Spot) → spot_of place.at rs x ≡ o
        → option_map entity_in_it (option_or (option_map (occurrence_at place.file) o) (table_at m cs x))
        ≡ or_else (option_map (λ (s : Spot). s.of.entity) o) (option_map entity_in_it (table_at m cs x))
    by None is = refl
    by (Some s) is = ap (λ (e : Entity). Some e) (entity_spelled s.of (spot_right place.at rs x s part.entities is))

-- THE IMAGE

same_entities_ends : (n j m next : ℕ) (d f : DiskTable) (image : Image) → ((x : ℕ) → d.entities x ≡ f.entities x) → d.next_id ≡ f.next_id → EndsAt n j m next d image → EndsAt n j m next f image
same_entities_ends n j m next d f image same id e = record {
  last = e.last;
  shows = record { log = e.shows.log; agrees = e.shows.agrees; next_id = e.shows.next_id ∙ id; chunks = e.shows.chunks; entities = λ x. e.shows.entities x ∙ same x };
}

pub same_entities_shows : (n j m next : ℕ) (d f : DiskTable) (image : Image) → ((x : ℕ) → d.entities x ≡ f.entities x) → d.next_id ≡ f.next_id → ShowsAt n j m next d image → ShowsAt n j m next f image
same_entities_shows n j m next d f image same id s = record { log = s.log; agrees = s.agrees; next_id = s.next_id ∙ id; chunks = s.chunks; entities = λ x. s.entities x ∙ same x }

-- the chunks with that of a part keep the rule
pub right_with_part : (n j m most part_next : ℕ) (cs : List Chunk) (place : Place) (rs : List Record) → IsPart rs → AllByRecursion (IsOwn n j part_next) rs → AllUpTo m cs
    → AreRightTo n j most m cs → most ≤ part_next → AreRightTo n j part_next (m + 1) (cs ++ chunk_of (m + 1) place (chunk_for rs) ∷ [])
right_with_part n j m most part_next cs place rs part own all right le =
    let c = chunk_of (m + 1) place (chunk_for rs) in
    let old : up_to (m + 1) cs ≡ up_to m cs = up_to_all m (m + 1) cs (omega arith) all ∙ sym (up_to_all m m cs (omega arith) all) in
    subst (AllByRecursion (λ (d : Chunk). IsRightChunk n j part_next d.bytes)) (sym (up_to_more (m + 1) cs c (omega arith) ∙ ap (λ (l : List Chunk). l ++ c ∷ []) old))
    (all_and_one (λ (d : Chunk). IsRightChunk n j part_next d.bytes) (up_to m cs) c (all_right_more n j most part_next le (up_to m cs) right) (part_right n j part_next rs part own))

-- what is shown of an image with a part of the store m + 1, and what was right before it
pub has_part_from_shows : (n j m most part_next next_before : ℕ) (cs : List Chunk) (place : Place) (rs : List Record) (image : Image)
    → Shows (log_header n j) (m + 1) part_next (m + 1) next_before (cs ++ chunk_of (m + 1) place (chunk_for rs) ∷ []) image
    → IsPart rs → AllByRecursion (IsOwn n j part_next) rs → AllUpTo m cs → AreRightTo n j most m cs → most ≤ part_next
    → HasPart n j m most rs part_next (disk_in m cs next_before) image
has_part_from_shows n j m most part_next next_before cs place rs image s part own all right le =
    let c = chunk_of (m + 1) place (chunk_for rs) in
    let old : up_to (m + 1) cs ≡ up_to m cs = up_to_all m (m + 1) cs (omega arith) all ∙ sym (up_to_all m m cs (omega arith) all) in
    let more : AreRightTo n j part_next (m + 1) (cs ++ c ∷ []) = subst (AllByRecursion (λ (d : Chunk). IsRightChunk n j part_next d.bytes))
    (sym (up_to_more (m + 1) cs c (omega arith) ∙ ap (λ (l : List Chunk). l ++ c ∷ []) old))
    (all_and_one (λ (d : Chunk). IsRightChunk n j part_next d.bytes) (up_to m cs) c (all_right_more n j most part_next le (up_to m cs) right) (part_right n j part_next rs part own)) in
    record {
      before = same_entities_shows n j m most (disk_in m (cs ++ c ∷ []) next_before) (disk_in m cs next_before) image
          (λ x. ap (option_map entity_in_it) (table_before m cs c x (omega arith))) refl
          (before_from_shows n j m part_next next_before most (cs ++ c ∷ []) image s
          (subst (AllByRecursion (λ (d : Chunk). IsRightChunk n j most d.bytes)) (sym (up_to_before m cs c (omega arith))) right));
      now = same_entities_ends n j (m + 1) part_next (disk_in (m + 1) (cs ++ c ∷ []) part_next) (with_part rs part_next (disk_in m cs next_before)) image
          (over m cs place rs part all) refl
          (ends_from_shows n j (m + 1) part_next (m + 1) next_before (cs ++ c ∷ []) image s part_next more);
    }
