use Rattle.ec_search_queues.proofs.tickets.Tickets.next_ticket.Goals as goal

pub returns : goal.returns
returns c = rw (← c.self.view_is) c.next.ensures
