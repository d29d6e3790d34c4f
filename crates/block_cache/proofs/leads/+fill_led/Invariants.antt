use Rattle.block_cache.proofs.leads.+fill_led.Given as goal

abbrev pub decreases-fill_led : goal.decreases-fill_led
decreases-fill_led g l = l.wanted.now.site
