pub mod AtWaypoint
