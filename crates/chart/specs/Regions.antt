-- A region: `R,number,parent`.
use Rattle.std.specs.Prelude.{ℕ, List, Option}
use Rattle.linefile.specs.Forms.{done, field, optional}
use Rattle.text.specs.Words.{word_in}
use Rattle.chart.specs.declared.regions.Region.{Region}

-- `-` for none, or a state's number
abbrev pub parent_in : List ℕ → Option (Option ℕ)
parent_in = optional word_in

-- the number and the region
abbrev pub region_in : List (List ℕ) → Option (ℕ × Region)
region_in =
    field word_in λ number.
    field parent_in λ parent.
    done (number, record { parent = parent })
