-- What the contracts that other crates rely on settle: two replies for one input are equal.
use mathlib.Core.Path.{◌≡◌}
use mathlib.Core.List.{List}
use Prim.Native.Nat.{ℕ}
use Rattle.model.specs.Case.{Table}
use Rattle.theory.specs.Cells.{On}
use Rattle.knowledge.proofs.SettledLaws.{bits_ext}
use Rattle.wants.specs.Starts.{BareTo}

pub bares_settled : (T : Table) (rep seens builts : List ℕ) (n : ℕ) (r r' : List ℕ) → BareTo T rep seens builts r n → BareTo T rep seens builts r' n → r ≡ r'
bares_settled T rep seens builts n r r' w w' = bits_ext r r' w.bits w'.bits w.long w'.long (to r r' w w') (to r' r w' w)
  where
    to : (r r' : List ℕ) → BareTo T rep seens builts r n → BareTo T rep seens builts r' n → (c : ℕ) → On r c → On r' c
    to r r' w w' c o = let (h, b) = w.only c o in w'.bares c h b
