mod Events
mod Channels
mod Passes
mod Turning
mod Starting
