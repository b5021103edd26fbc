-- The old member of a pair, else the one of equal name.
use Rattle.std.proofs.Common.{◌≡◌}
use Rattle.legacy_mapping.specs.Sources.{IsPaired, IsSource}
use Rattle.legacy_mapping.proofs.SourceLemmas.{source_paired, source_alike, source_alike-only}
use Rattle.legacy_mapping.proofs.search.Search.source.Goals as goal

pub returns-in-Some-clause-is : goal.returns-in-Some-clause-is
returns-in-Some-clause-is c = IsSource.paired c.in-Some.i c.in-Some.ensures.found

pub returns-in-Some-clause-only : goal.returns-in-Some-clause-only
returns-in-Some-clause-only c = source_paired _ _ _ _ c.in-Some.i c.in-Some.ensures.found c.in-Some.ensures.only

pub returns-in-None-clause-is : goal.returns-in-None-clause-is
returns-in-None-clause-is c = source_alike _ _ _ _ c.alike.result (λ j is. let e = c.in-None.ensures.only j is in absurd cc) c.alike.ensures.found c.alike.ensures.only

pub returns-in-None-clause-only : goal.returns-in-None-clause-only
returns-in-None-clause-only c = source_alike-only _ _ _ _ c.alike.result (λ j is. let e = c.in-None.ensures.only j is in absurd cc) c.alike.ensures.found c.alike.ensures.only
