-- What the rest of the core says of events, where stores list no id.
use Rattle.std.proofs.Common.{◌≡◌, ◌≢◌, ℕ, true, List, [], ◌∷◌, ◌++◌, Option, Some, None, refl, sym, ap, ◌∙◌, subst}
use Rattle.std.specs.Prelude.{◌&&◌, nat_eq, nat_le}
use Rattle.std.specs.List.{filter, list_all}
use Rattle.graph_model.specs.Graph.{ids}
use Rattle.graph_model.specs.Ids.{rises}
use Rattle.graph_model.specs.Limits.{id_limit, store_limit}
use Rattle.graph_model.specs.Stores.{is_good_record, next_after, total_size}
use Rattle.graph_model.specs.declared.entity.Record.{Record}
use Rattle.graph_model.specs.declared.entity.StoreOp.{StoreOp}
use Rattle.core_steps.specs.declared.state.Book.{Book}
use Rattle.core_steps.specs.declared.state.CoreMonitor.{CoreMonitor}
use Rattle.core_steps.specs.declared.event.Event.{Event}
use Rattle.core_steps.specs.declared.event.Event.TheVariants.{Reserve, Return, BeginCycle, BeginMark, MarkSome, Deliver, ReportBegun, CloseCycle, SweepSome, ReportSwept, StoreBegin, StorePart, StoreEnd, Confirm, Pin, Unpin, Tidy}
use Rattle.core_steps.specs.declared.unit.EventKind.TheVariants as kind
use Rattle.core_steps.specs.Core.{Hand, graph, is_home, records_of}
use Rattle.core_steps.specs.Events.{is_worker, kind_of}
use Rattle.core_steps.specs.Rows.{monitor_step}
use Rattle.core_steps.specs.Steps.{book_after, end_in, permits, place_in}
use Rattle.shards.specs.Backed.{next_id_of, next_id_then}
use Rattle.shard_rows.specs.Units.{IsPlain, IsPlainOp, is_free}

-- WHAT THE REST OF THE CORE SAYS

pub free_worker : (e : Event) → is_worker e ≡ true → is_free e ≡ true
free_worker (StoreBegin op) w = cc
free_worker (Pin x) w = cc
free_worker (Reserve m) w = refl
free_worker (Return m) w = refl
free_worker BeginCycle w = refl
free_worker BeginMark w = refl
free_worker (MarkSome xs) w = refl
free_worker (Deliver xs) w = refl
free_worker (ReportBegun j) w = refl
free_worker CloseCycle w = refl
free_worker (SweepSome xs) w = refl
free_worker (ReportSwept j) w = refl
free_worker StorePart w = refl
free_worker StoreEnd w = refl
free_worker Confirm w = refl
free_worker (Unpin x) w = refl
free_worker Tidy w = refl

pub free_may : (b : Book) (xs : List ℕ) (a : ℕ) (e : Event) → is_free e ≡ true → permits b xs a e ≡ true
free_may b xs a (StoreBegin op) f = cc
free_may b xs a (Pin x) f = cc
free_may b xs a (Reserve m) f = refl
free_may b xs a (Return m) f = refl
free_may b xs a BeginCycle f = refl
free_may b xs a BeginMark f = refl
free_may b xs a (MarkSome ys) f = refl
free_may b xs a (Deliver ys) f = refl
free_may b xs a (ReportBegun j) f = refl
free_may b xs a CloseCycle f = refl
free_may b xs a (SweepSome ys) f = refl
free_may b xs a (ReportSwept j) f = refl
free_may b xs a StorePart f = refl
free_may b xs a StoreEnd f = refl
free_may b xs a Confirm f = refl
free_may b xs a (Unpin x) f = refl
free_may b xs a Tidy f = refl

-- an event that the rest has no say in begins no store
pub free_kind : (e : Event) → is_free e ≡ true → kind_of e ≢ kind.StoreBegin
free_kind (StoreBegin op) f = cc
free_kind (Pin x) f = cc
free_kind (Reserve m) f = λ y. cc
free_kind (Return m) f = λ y. cc
free_kind BeginCycle f = λ y. cc
free_kind BeginMark f = λ y. cc
free_kind (MarkSome xs) f = λ y. cc
free_kind (Deliver xs) f = λ y. cc
free_kind (ReportBegun j) f = λ y. cc
free_kind CloseCycle f = λ y. cc
free_kind (SweepSome xs) f = λ y. cc
free_kind (ReportSwept j) f = λ y. cc
free_kind StorePart f = λ y. cc
free_kind StoreEnd f = λ y. cc
free_kind Confirm f = λ y. cc
free_kind (Unpin x) f = λ y. cc
free_kind Tidy f = λ y. cc

-- THE BOOK

next_last : (n : ℕ) (ops : List StoreOp) (op : StoreOp) → next_after n (ops ++ op ∷ []) ≡ op.next_id
next_last n [] op = refl
next_last n (o ∷ ops) op = next_last o.next_id ops op

plain_end : (b : Book) (o : Option StoreOp) → o ≡ b.opened → IsPlain b → IsPlain (end_in b o)
plain_end b None is p = p
plain_end b (Some op) is p = (next_last b.start_next b.ended op ∙ (p.1 op (sym is)).1, λ x e. cc)

-- stores stay plain, where none is begun
pub plain_after : (b : Book) (e : Event) → kind_of e ≢ kind.StoreBegin → IsPlain b → IsPlain (book_after b e)
plain_after b (StoreBegin op) n p = absurd (n refl)
plain_after b StoreEnd n p = plain_end b b.opened refl p
plain_after b (Reserve m) n p = p
plain_after b (Return m) n p = p
plain_after b BeginCycle n p = p
plain_after b BeginMark n p = p
plain_after b (MarkSome xs) n p = p
plain_after b (Deliver xs) n p = p
plain_after b (ReportBegun j) n p = p
plain_after b CloseCycle n p = p
plain_after b (SweepSome xs) n p = p
plain_after b (ReportSwept j) n p = p
plain_after b StorePart n p = p
plain_after b Confirm n p = p
plain_after b (Pin x) n p = p
plain_after b (Unpin x) n p = p
plain_after b Tidy n p = p

-- and where a plain one is
pub plain_begun : (b : Book) (op : StoreOp) → IsPlainOp op → IsPlain b → IsPlain (book_after b (StoreBegin op))
plain_begun b op plain p = (p.0, λ x e. let same : op ≡ x = cc in subst IsPlainOp same plain)

-- THE NEXT ID

next_opened : (o : Option StoreOp) (n : ℕ) → ((op : StoreOp) → o ≡ Some op → op.next_id ≡ n) → next_id_of o n ≡ n
next_opened None n p = refl
next_opened (Some op) n p = p op refl

-- an event that is a worker's, or any where stores are plain, leaves the next id of a channel
pub next_plain : (b : Book) (e : Event) → IsPlain b → next_id_then b (Some e) 1024 ≡ 1024
next_plain b StorePart p = next_opened b.opened 1024 (λ op is. (p.1 op is).1)
next_plain b (StoreBegin op) p = refl
next_plain b StoreEnd p = refl
next_plain b (Reserve m) p = refl
next_plain b (Return m) p = refl
next_plain b BeginCycle p = refl
next_plain b BeginMark p = refl
next_plain b (MarkSome xs) p = refl
next_plain b (Deliver xs) p = refl
next_plain b (ReportBegun j) p = refl
next_plain b CloseCycle p = refl
next_plain b (SweepSome xs) p = refl
next_plain b (ReportSwept j) p = refl
next_plain b Confirm p = refl
next_plain b (Pin x) p = refl
next_plain b (Unpin x) p = refl
next_plain b Tidy p = refl

pub next_worker : (b : Book) (e : Event) (n : ℕ) → is_worker e ≡ true → next_id_then b (Some e) n ≡ n
next_worker b StorePart n w = cc
next_worker b (StoreBegin op) n w = cc
next_worker b StoreEnd n w = cc
next_worker b (Reserve m) n w = refl
next_worker b (Return m) n w = refl
next_worker b BeginCycle n w = refl
next_worker b BeginMark n w = refl
next_worker b (MarkSome xs) n w = refl
next_worker b (Deliver xs) n w = refl
next_worker b (ReportBegun j) n w = refl
next_worker b CloseCycle n w = refl
next_worker b (SweepSome xs) n w = refl
next_worker b (ReportSwept j) n w = refl
next_worker b Confirm n w = cc
next_worker b (Pin x) n w = cc
next_worker b (Unpin x) n w = cc
next_worker b Tidy n w = refl

-- the monitor takes no part
pub next_monitor : (m m' : CoreMonitor) (h h' : Hand) (b : Book) (e : Event) → monitor_step m h e ≡ Some (m', h') → next_id_then b (Some e) 0 ≡ 0
next_monitor m m' h h' b StorePart s = cc
next_monitor m m' h h' b (StoreBegin op) s = refl
next_monitor m m' h h' b StoreEnd s = refl
next_monitor m m' h h' b (Reserve n) s = refl
next_monitor m m' h h' b (Return n) s = refl
next_monitor m m' h h' b BeginCycle s = refl
next_monitor m m' h h' b BeginMark s = refl
next_monitor m m' h h' b (MarkSome xs) s = refl
next_monitor m m' h h' b (Deliver xs) s = refl
next_monitor m m' h h' b (ReportBegun j) s = refl
next_monitor m m' h h' b CloseCycle s = refl
next_monitor m m' h h' b (SweepSome xs) s = refl
next_monitor m m' h h' b (ReportSwept j) s = refl
next_monitor m m' h h' b Confirm s = refl
next_monitor m m' h h' b (Pin x) s = refl
next_monitor m m' h h' b (Unpin x) s = refl
next_monitor m m' h h' b Tidy s = refl

-- RECORDS OF THE OPEN STORE

records_none : (o : Option StoreOp) → ((op : StoreOp) → o ≡ Some op → op.records ≡ []) → records_of o ≡ []
records_none None p = refl
records_none (Some op) p = p op refl

-- in a plain store no shard has a record
pub place_plain : (n k : ℕ) (b : Book) → IsPlain b → (place_in n b k).records ≡ []
place_plain n k b p = ap (λ (rs : List Record). filter (λ (r : Record). is_home n k r.id) rs) (records_none b.opened (λ op is. (p.1 op is).0))

-- a plain store may be made where stores are plain
pub plain_may : (b : Book) (xs : List ℕ) (a : ℕ) (op : StoreOp) → a ≡ 0 → IsPlain b → IsPlainOp op → permits b xs a (StoreBegin op) ≡ true
plain_may b xs a op zeroth p plain = λ i. nat_eq (zeroth i) 0 && (nat_le (p.0 i) (plain.1 i) && (nat_le (plain.1 i) id_limit && (rises (ids (plain.0 i))
    && (nat_le (total_size (plain.0 i)) store_limit && list_all (is_good_record (graph b) xs op) (plain.0 i)))))
