mod States
mod Steps
mod Refusals
mod Programs
