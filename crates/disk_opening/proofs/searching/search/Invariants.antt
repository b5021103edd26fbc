-- The ids that are open are looked at one by one.
use Rattle.std.proofs.Common.{◌≡◌, IsTrue, false, [], length, map}
use Rattle.std.specs.Prelude.{is_some}
use Rattle.recovery.specs.Searching.{IsSearched}
use Rattle.disk_opening.specs.RowTables.{row_of, rows_in, tables_in}
use Rattle.disk_opening.proofs.SearchSteps.{HaveForms, left_to_do}
use Rattle.disk_opening.proofs.searching.search.Given as goal

abbrev pub invariant-search : goal.invariant-search
invariant-search g l = record {
  window : length l.window ≡ length l.initial.window;
  many : length l.disks ≡ length l.initial.disks;
  reads : IsTrue g.D.Disk.tells → map g.D.Disk.reads l.disks ≡ map g.D.Disk.reads l.initial.disks;
  leaves : IsTrue g.D.Disk.tells → map g.D.Disk.leaves l.disks ≡ map g.D.Disk.leaves l.initial.disks;
  calm : map g.D.Disk.faults l.disks ≡ map g.D.Disk.faults l.initial.disks;
  root : is_some (row_of (rows_in l.indexes) 1) ≡ false → l.open_ids.items ≡ [];
  searched : IsTrue g.D.Disk.tells → IsSearched (tables_in (map g.D.Disk.reads l.initial.disks) (rows_in l.indexes)) l.looked.keys l.open_ids.items;
  forms : IsTrue g.D.Disk.tells → HaveForms l.types (tables_in (map g.D.Disk.reads l.initial.disks) (rows_in l.indexes)) l.looked.keys;
}

abbrev pub decreases-search : goal.decreases-search
decreases-search g l = left_to_do l.looked.keys l.open_ids.items
