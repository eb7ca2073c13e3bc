-- The net as it is lent: areas as a list of their own, and the table of neighbours in the workspace, from a place on.
use Rattle.std.specs.Prelude.{ℕ, ◌+◌, ◌*◌, ◌≤◌, ◌<◌, ◌≡◌, List, length, get_or}
use Rattle.rules.specs.Field.{none}
use Rattle.rules.specs.Net.{Net, spans, near}
use Rattle.rules.specs.Refusals.{most_spans}
use Rattle.laws.proofs.Strides.{Answered}
use Rattle.field.specs.Lent.{cons_at}
use Rattle.space.specs.Space.{sec}

unfoldable pub net_at : ℕ → List ℕ → List ℕ → Net
net_at table areas ws = record { neighbours = sec table (4 * length areas) ws; areas = areas }

-- every section begins before it, so that no sum of a place and a span's numbers wraps
abbrev pub last_place : ℕ
last_place = 8388608

-- there are few spans, and a neighbour is one of them
pub record Closed (N : Net) : Type 0 where
  pub few : spans N ≤ most_spans
  pub inside : (s d : ℕ) → s < spans N → d < 4 → (near N s d ≡ none → ⊥) → near N s d < spans N

-- and connections are mutual
pub record Mutual (N : Net) : Type 0 where
  pub closed : Closed N
  pub answered : Answered N

-- the four connections of span s, of which those are none where it has no neighbour
pub record Opens (N : Net) (s : ℕ) (cons : List ℕ) : Type 0 where
  pub shut : (d : ℕ) → d < 4 → get_or cons d 0 ≡ 255 → near N s d ≡ none
  pub leads : (d : ℕ) → d < 4 → (get_or cons d 0 ≡ 255 → ⊥) → near N s d ≡ none → ⊥

-- the lists hold a net, and the connections that go with it
pub record Lent (table : ℕ) (areas con ws : List ℕ) : Type 0 where
  pub closed : Closed (net_at table areas ws)
  pub opens : (s : ℕ) → s < length areas → Opens (net_at table areas ws) s (cons_at con s)
  pub linked : length con ≡ 4 * length areas
  pub room : table + 4 * length areas ≤ length ws
  pub place : table ≤ last_place

-- span s of such a net, and its four connections
pub record AtSpan (table : ℕ) (areas ws cons : List ℕ) (s : ℕ) : Type 0 where
  pub closed : Closed (net_at table areas ws)
  pub opens : Opens (net_at table areas ws) s cons
  pub span : s < length areas
  pub room : table + 4 * length areas ≤ length ws
  pub place : table ≤ last_place
