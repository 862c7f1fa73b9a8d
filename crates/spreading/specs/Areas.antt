-- A search's areas are its own from the first step to the last.
use Rattle.std.specs.Prelude.{◌≡◌, length}
use Rattle.spreading.specs.declared.Frontier.{Frontier}

-- the same steps, and the same areas, whose entries may be others
pub record SameAreas (f g : Frontier) : Type 0 where
  pub steps : g.steps.now ≡ f.steps.now
  pub size : length g.mark.now ≡ length f.mark.now
  pub room : length g.queue.now ≡ length f.queue.now
  pub mark : g.mark.ghost_name ≡ f.mark.ghost_name
  pub queue : g.queue.ghost_name ≡ f.queue.ghost_name
