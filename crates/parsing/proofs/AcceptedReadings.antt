-- What an accepted reading of `read` has: few bytes, few records and few groups, counted over its trees and over their elements.
use mathlib.Core.Path.{◌≡◌, refl}
use mathlib.Core.List.{List}
use mathlib.Core.Bool.{Bool, true, false, cond}
use Prim.Native.Nat.{ℕ, ◌≤◌}
use native.Mathlib.Omega.{arith}
use borrow.Author.Tests.{leb-true}
use lib.Dec.{leb}
use lib.ListN.{length}
use Rattle.rule.specs.Trees.{Trees, count, deepest}
use Rattle.prefix.specs.Reading.{accepted, refused, reading}
use Rattle.prefix.proofs.Sizes.{accepted_fits}
use Rattle.tables.specs.Records.{room_for}
use Rattle.reading.specs.Read.{long_text, most_bytes, most_groups, read_limits, reading_for}
use Rattle.reading.proofs.Formed.{Formed, reading_formed}
use Rattle.derivations.specs.Derivations.{count_trees, deepest_from}
use Rattle.derivations.specs.TreeElements.{elements_of}
use Rattle.derivations.proofs.TreeSizes.{count_elements, deepest_elements}

pub record AcceptedReading (bytes : List ℕ) (cells : ℕ) (trees : Trees) : Type 0 where
  pub reads : reading bytes (read_limits cells) ≡ accepted trees
  pub short : length bytes ≤ most_bytes
  pub room : count trees ≤ room_for cells
  pub groups : deepest trees ≤ most_groups
  pub counted : count_trees (elements_of trees) ≡ count trees
  pub deep_as : deepest_from 0 (elements_of trees) ≡ deepest trees

pub accepted_reading : (bytes : List ℕ) (cells : ℕ) (trees : Trees) → reading_for bytes cells ≡ accepted trees → AcceptedReading bytes cells trees
unfolding reading_for
accepted_reading bytes cells trees = go (leb (length bytes) most_bytes) refl
  where
    go : (b : Bool) → leb (length bytes) most_bytes ≡ b → cond b (reading bytes (read_limits cells)) (refused long_text most_bytes) ≡ accepted trees → AcceptedReading bytes cells trees
    go true short a =
        let fits = accepted_fits bytes (read_limits cells) trees a in
        let formed : Formed trees = rw a at (reading_formed bytes (read_limits cells)) in
        record {
          reads = a;
          short = leb-true (length bytes) most_bytes short;
          room = fits.0;
          groups = fits.1;
          counted = count_elements trees formed;
          deep_as = deepest_elements trees formed;
        }
    go false short a = absurd (let z : ◌≡◌ {A = ℕ} 0 1 = cc in omega arith)
