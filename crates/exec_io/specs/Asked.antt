-- Which names a shelf was asked for.
use Rattle.std.specs.Prelude.{◌≡◌, ℕ, List, [], ◌∷◌, ◌++◌, Option, None, Some, map, Bool, IfSome, IsSomeAnd, String, string_bytes, if◌then◌else◌}
use Rattle.std.specs.declared.alloc.Global.{Global}

-- The names that reads asked for so far, in order, where the shelf tells them.
abbrev pub Asked : Type 0
Asked = Option (List (List ℕ))

-- What is told afterwards was told before, and has grown by this name. A shelf may stop telling.
pub record AsksOnce (name : List ℕ) (old new : Asked) : Type 0 where
  pub grown : IfSome new (λ after. IsSomeAnd old (λ before. after ≡ before ++ name ∷ []))

-- These names, where they are told.
abbrev pub asked_so : Bool → List (String Global) → Asked
asked_so tells names = if tells then Some (map string_bytes names) else None
