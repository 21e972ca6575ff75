-- What the one walk keeps for both calls, and its leaf. Definitions only.
use Rattle.std.specs.Prelude.{ℕ, suc, Bool, true, false, cond, List, [], ◌∷◌, ◌++◌, reverse, ltb, length, take}
use Rattle.definitions.specs.Walk.{Walked, ended, exhausted, Leaf}
use Rattle.definitions.specs.Nearest.{Best, best, no_best, replaces}
use Rattle.definitions.specs.Listing.{ListPoint}

-- the best so far of `nearest`; of `list` how many points were found, and in the order of their finding those that had a place
pub record Kept : Type 0 where
  pub best : Best
  pub count : ℕ
  pub stored : List ListPoint

-- a leaf: `nearest` considers it, `list` stores it while there are places, and counts it in any case
unfoldable pub leaf : Bool → ℕ → Leaf Kept
unfolding replaces
leaf false places zs d k standing nodes =
    cond (replaces zs d k.best standing) (ended (record { best = best zs; count = k.count; stored = k.stored }) d nodes) (ended k standing nodes)
leaf true places zs d k standing nodes =
    ended (record { best = k.best; count = suc k.count; stored = cond (ltb k.count places) (k.stored ++ record { distance = d; point = zs } ∷ []) k.stored }) standing nodes

-- ---- the walks of the calls, seen as this one
-- what a walk has come to, with what it keeps seen through f
abbrev pub mapped : {K L : Type 0} → (K → L) → Walked K → Walked L
mapped f (ended k R m) = ended (f k) R m
mapped f (exhausted m R) = exhausted m R

-- of `nearest`
abbrev pub best_only : Best → Kept
best_only k = record { best = k; count = 0; stored = [] }

-- of `list`: of the points found, the last first, those that had one of so many places
abbrev pub list_only : ℕ → List ListPoint → Kept
list_only room ps = record { best = no_best; count = length ps; stored = take room (reverse ps) }
