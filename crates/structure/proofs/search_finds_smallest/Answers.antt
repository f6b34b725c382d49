use Rattle.structure.proofs.Searching.{search_finds_smallest}
use Rattle.structure.proofs.search_finds_smallest.Goals as goal

pub returns : goal.returns
returns c = search_finds_smallest
