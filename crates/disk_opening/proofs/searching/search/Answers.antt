-- The ids that are open are looked at one by one.
use Rattle.std.proofs.Common.{◌≡◌, ◌∙◌, ◌++◌, [], ℕ, List, Some, refl, map, sym, subst, arith}
use Rattle.std.proofs.lemmas.Grind.{common_steps}
use Rattle.graph_model.specs.Graph.{edges_of}
use Rattle.channel.specs.Images.{Image}
use Rattle.recovery.specs.Images.{image_at}
use Rattle.recovery.specs.Searching.{IsSearched}
use Rattle.disk_opening.specs.RowTables.{AreRowsThere, rows_at, rows_in, tables_in}
use Rattle.disk_opening.specs.SearchFaults.{IsFaultOf, IsReachedFault}
use Rattle.disk_opening.proofs.HomeRows.{handed_on}
use Rattle.disk_opening.proofs.SearchSteps.{HaveForms, forms_on, less_known, less_new, none_looked, reached_fault, root_there, search_starts, search_whole}
use Rattle.disk_opening.proofs.searching.search.Goals as goal

pub search-init : goal.search-init
search-init g c =
    let images = map g.D.Disk.reads c.args.disks.now in
    let rows = rows_in c.args.indexes.now in
    record {
      window = refl;
      many = refl;
      reads = λ tells. refl;
      leaves = λ tells. refl;
      calm = refl;
      root = c.in_ok-open_ids.ensures.none;
      searched = λ tells. search_starts images rows c.new-looked.result.keys c.in_ok-open_ids.open_ids.items c.new-looked.ensures.empty c.in_ok-open_ids.ensures.root c.in_ok-open_ids.ensures.none
          c.searches_find_the_graph.ensures.begins c.searches_find_the_graph.ensures.nothing;
      forms = λ tells. none_looked c.args.types.now (tables_in images rows) c.new-looked.result.keys c.new-looked.ensures.empty;
    }

pub search-smaller-then-not-branch : goal.search-smaller-then-not-branch
search-smaller-then-not-branch g c =
    less_known c.search.looked.keys c.is_new.new.looked.keys c.search.open_ids.items c.pop.new.self.items c.in-Some.id (c.in_ok-is_new.ensures.known c.if-not-branch.true).1 c.in-Some.ensures.items

pub search-preserved-then-not-branch : goal.search-preserved-then-not-branch
search-preserved-then-not-branch g c =
    let so = c.search.invariant in
    let tables = tables_in (map g.D.Disk.reads c.args.disks.now) (rows_in c.args.indexes.now) in
    let known = c.in_ok-is_new.ensures.known c.if-not-branch.true in
    record {
      window = so.window;
      many = so.many;
      reads = so.reads;
      leaves = so.leaves;
      calm = so.calm;
      root = root_there (rows_in c.args.indexes.now) c.pop.new.self.items c.in-Some.id c.pop.new.self.items (λ none. sym c.in-Some.ensures.items ∙ so.root none);
      searched = λ tells. subst (λ (l : List ℕ). IsSearched tables l c.pop.new.self.items) (sym known.1)
          (c.searches_find_the_graph.ensures.skips tables c.search.looked.keys c.pop.new.self.items c.in-Some.id known.0
          (subst (IsSearched tables c.search.looked.keys) c.in-Some.ensures.items (so.searched tells)));
      forms = λ tells. subst (HaveForms c.args.types.now tables) (sym known.1) (so.forms tells);
    }

pub read_home-requires-clause-there : goal.read_home-requires-clause-there
read_home-requires-clause-there g c tells j =
    subst (λ (is : List Image). AreRowsThere (image_at is j) (rows_at (rows_in c.args.indexes.now) j)) (sym (c.search.invariant.reads tells)) (c.requires.there tells j)

pub returns-in_err-entity-clause-reached : goal.returns-in_err-entity-clause-reached
returns-in_err-entity-clause-reached g c tells =
    let so = c.search.invariant in
    let images = map g.D.Disk.reads c.args.disks.now in
    let rows = rows_in c.args.indexes.now in
    let tables = tables_in images rows in
    let e = c.in_err-entity.field-0.0 in
    let is = subst (λ (i : List Image). IsFaultOf c.args.types.now (tables_in i rows) c.in-Some.id e) (so.reads tells) (c.in_err-entity.ensures.fault tells) in
    handed_on c.from_residual-in_err-entity.result e (IsReachedFault tables) c.from_residual-in_err-entity.ensures.1
    (reached_fault c.args.types.now images rows c.search.looked.keys c.pop.new.self.items c.in-Some.id e (subst (IsSearched tables c.search.looked.keys) c.in-Some.ensures.items (so.searched tells))
    (λ none. sym c.in-Some.ensures.items ∙ so.root none) is)

pub search-smaller : goal.search-smaller
search-smaller g c =
    less_new c.search.looked.keys c.is_new.new.looked.keys c.search.open_ids.items c.pop.new.self.items c.push_edges.new.ids.items c.in-Some.id c.in_ok-entity.entity c.is_new.ensures.few
    (c.in_ok-is_new.ensures.new c.if-not-branch.false).1 c.in-Some.ensures.items c.in_ok-push_edges.ensures c.in_ok-entity.ensures.size

pub search-preserved : goal.search-preserved
search-preserved g c =
    let so = c.search.invariant in
    let rows = rows_in c.args.indexes.now in
    let tables = tables_in (map g.D.Disk.reads c.args.disks.now) rows in
    let e = c.in_ok-entity.entity in
    let x = c.in-Some.id in
    let front = c.pop.new.self.items in
    let new = c.in_ok-is_new.ensures.new c.if-not-branch.false in
    record {
      window = c.read_home.auto.window ∙ so.window;
      many = c.read_home.ensures.many ∙ so.many;
      reads = λ tells. c.read_home.ensures.reads tells ∙ so.reads tells;
      leaves = λ tells. c.read_home.ensures.leaves tells ∙ so.leaves tells;
      calm = c.in_ok-entity.ensures.calm ∙ so.calm;
      root = root_there rows front x c.push_edges.new.ids.items (λ none. sym c.in-Some.ensures.items ∙ so.root none);
      searched = λ tells.
          let there = subst (λ (i : List Image). tables_in i rows x ≡ Some e) (so.reads tells) (c.in_ok-entity.ensures.entity tells) in
          subst (IsSearched tables c.is_new.new.looked.keys) (sym c.in_ok-push_edges.ensures)
          (subst (λ (l : List ℕ). IsSearched tables l (front ++ edges_of (Some e))) (sym new.1)
          (c.searches_find_the_graph.ensures.looks tables c.search.looked.keys front x e new.0 there (subst (IsSearched tables c.search.looked.keys) c.in-Some.ensures.items (so.searched tells))));
      forms = λ tells.
          let there = subst (λ (i : List Image). tables_in i rows x ≡ Some e) (so.reads tells) (c.in_ok-entity.ensures.entity tells) in
          subst (HaveForms c.args.types.now tables) (sym new.1) (forms_on c.args.types.now tables c.search.looked.keys x e there c.in_ok-entity.ensures.form (so.forms tells));
    }

pub returns-clause-found : goal.returns-clause-found
returns-clause-found g c tells =
    let so = c.search.invariant in
    let tables = tables_in (map g.D.Disk.reads c.args.disks.now) (rows_in c.args.indexes.now) in
    let none : c.search.open_ids.items ≡ [] = grind (arith, common_steps) in
    let ended = subst (IsSearched tables c.search.looked.keys) none (so.searched tells) in
    search_whole c.args.types.now tables c.search.looked.keys ended (so.forms tells) (c.searches_find_the_graph.ensures.found tables c.search.looked.keys ended)
    (c.searches_find_the_graph.ensures.ends tables c.search.looked.keys ended)
