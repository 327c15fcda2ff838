-- What a search over a day network says of all owed.
use Rattle.std.proofs.Common.{◌≡◌, ℕ, ◌≤◌, ◌≢◌, List, get_or, Option, ◌∙◌, arith}
use Rattle.flow.specs.Network.{brought}
use Rattle.flow.proofs.Ranks.{brought_more, brought_none}
use Rattle.search.specs.Served.{Served}
use Rattle.timetable.specs.Plans.{Timetable, Sound, Servable}
use Rattle.timetable.specs.Quotes.{Ranking, all_owed}
use Rattle.day_network.specs.DayNetwork.{day}
use Rattle.day_network.proofs.DayQuotes.{servable_brought}

module _ (S : Timetable) (sound : Sound S) (owed : ℕ → ℕ) (R : Option Ranking) (ranks : ℕ) (loads marks figures : List ℕ) (served : Served (day S owed R) ranks loads marks figures) (some : 1 ≤ ranks) where
  -- the first figure is what is brought to all owed
  first_figure : get_or figures 0 0 ≡ brought (day S owed R) 1 loads
  first_figure = omega (arith, served.granted 0 some, brought_more (day S owed R) 0 loads, brought_none (day S owed R) loads)

  pub serves : get_or figures 0 0 ≡ all_owed S owed → brought (day S owed R) 1 loads ≡ all_owed S owed
  serves e = omega (arith, first_figure)

  pub unservable : get_or figures 0 0 ≢ all_owed S owed → Servable S owed → ⊥
  unservable ne can = ne (first_figure ∙ servable_brought S sound owed R loads can served.flow (served.cuts 1 some).greatest)
